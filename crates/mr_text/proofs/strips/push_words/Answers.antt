use Rattle.std.proofs.Common.{◌≡◌, ◌≢◌, ◌≤◌, ◌<◌, ◌+◌, ◌-◌, ◌*◌, ◌++◌, ◌∷◌, [], ℕ, ℤ, List, length, map, negsuc, get_or, sym}
use Rattle.std.proofs.Common.{ap, ap₂, ◌∙◌, arith}
use Rattle.std.specs.Prelude.{slice_range}
use Rattle.std.proofs.lemmas.List.Elements.{All-push, All-same}
use Rattle.mr_defs.specs.Folded.{limit}
use Rattle.mr_items.specs.Runs.{run_at}
use Rattle.mr_items.specs.Words.{is_word_byte, lower, word_places, words}
use Rattle.mr_text.proofs.Pairs.{number, start_is, end_is, start_below}
use Rattle.mr_text.proofs.Pushed.{pushed-next, pushed-all}
use Rattle.mr_text.proofs.Stretches.{length-stretch, stretch_at, run_inside, run_is, one_word}
use Rattle.mr_text.proofs.strips.push_words.Given.{Over}
use Rattle.mr_text.proofs.strips.push_words.Goals.{In-loop-i}
use Rattle.mr_text.proofs.strips.push_words.Goals as goal

abbrev Fine : (g : Over) → g.row.K.Denot × ℤ → Type 0
Fine g p = g.K.Key.allowed p.0 × (p.1 ≢ negsuc limit)

pub returns-then-to-from-gt-STRIP-clause-ok : goal.returns-then-to-from-gt-STRIP-clause-ok
returns-then-to-from-gt-STRIP-clause-ok g c =
    let text = c.args.text.now in
    let pair = g.J.WordJob.pair_of c.args.job.now in
    let xs = slice_range text c.args.from c.args.to in
    let order : c.args.from ≤ c.args.to = omega (arith, c.requires.order) in
    let size = length-stretch text c.args.from c.args.to order c.requires.inside in
    let one : words xs ≡ map lower xs
    ∷ [] = one_word xs (omega (arith, size, c.requires.order))
    (λ k below. ap is_word_byte (stretch_at text c.args.from c.args.to order c.requires.inside k (omega (arith, below, size)))
    ∙ c.requires.long c.if-to-from-gt-STRIP.true (c.args.from + k) (omega arith) (omega (arith, below, size))) in
    c.in_ok-push.ensures.items
    ∙ ap (λ p. c.args.block.now.items ++ p ∷ []) (c.in_ok-pair.ensures.same
    ∙ ap (λ t. pair (map lower (slice_range t c.args.from c.args.to))) (sym c.requires.text))
    ∙ ap (λ ws. c.args.block.now.items ++ map pair ws) (sym one)

pub returns-then-to-from-gt-STRIP-clause-allowed : goal.returns-then-to-from-gt-STRIP-clause-allowed
returns-then-to-from-gt-STRIP-clause-allowed g c =
    All-same (Fine g) c.push.new.self.items (c.args.block.now.items ++ c.in_ok-pair.field-0 ∷ []) c.in_ok-push.ensures.items
    (All-push (Fine g) c.args.block.now.items c.in_ok-pair.field-0 c.requires.allowed c.in_ok-pair.ensures.allowed)

-- the word of a turn, by the edges
module _ (g : Over) (c : In-loop-i g) where
  abbrev text : List ℕ
  text = c.args.text.now

  abbrev xs : List ℕ
  xs = slice_range text c.args.from c.args.to

  abbrev place : ℕ
  place = get_or (word_places xs) c.loop-i.i 0

  order : c.args.from ≤ c.args.to
  order = omega (arith, c.requires.order)

  inside : c.word_edges-count.result ≤ length c.word_edges-count.new.edges
  inside = omega
      (arith, c.word_edges-count.ensures.bound, c.word_edges-count.ensures.same, c.requires.room, c.if-to-from-gt-STRIP.false)

  below : c.loop-i.i < length (word_places xs)
  below = omega (
    arith,
    number is_word_byte xs c.word_edges-count.new.edges c.word_edges-count.result inside c.word_edges-count.ensures.edges,
    c.loop-i-test.true,
  )

  within : place ≤ c.args.to - c.args.from
  within = omega (
    arith,
    start_below is_word_byte xs c.word_edges-count.new.edges c.word_edges-count.result inside c.word_edges-count.ensures.edges c.loop-i.i
        below,
    length-stretch text c.args.from c.args.to order c.requires.inside,
  )

  start : get_or c.word_edges-count.new.edges (2 * c.loop-i.i) 0 ≡ place
  start = start_is
      is_word_byte xs c.word_edges-count.new.edges c.word_edges-count.result inside c.word_edges-count.ensures.edges c.loop-i.i below

  end : get_or c.word_edges-count.new.edges (2 * c.loop-i.i + 1) 0 ≡ place + length (run_at is_word_byte xs place)
  end = end_is
      is_word_byte xs c.word_edges-count.new.edges c.word_edges-count.result inside c.word_edges-count.ensures.edges c.loop-i.i below

pub pair-requires-in-loop-i-clause-order : goal.pair-requires-in-loop-i-clause-order
pair-requires-in-loop-i-clause-order g c =
    let there = (goal.at.pair-requires-in-loop-i-clause-order g c).In-loop-i in omega (arith, start g there, end g there)

pub pair-requires-in-loop-i-clause-inside : goal.pair-requires-in-loop-i-clause-inside
pair-requires-in-loop-i-clause-inside g c =
    let there = (goal.at.pair-requires-in-loop-i-clause-inside g c).In-loop-i in
    let ends = run_inside (text g there) c.args.from c.args.to (order g there) c.requires.inside is_word_byte (place g there)
    (within g there) in
    omega (arith, end g there, ends, c.requires.inside, c.requires.order, ap length c.requires.text)

pub loop-i-preserved : goal.loop-i-preserved
loop-i-preserved g c =
    let there = (goal.at.loop-i-preserved g c).In-loop-i in
    let pair = g.J.WordJob.pair_of c.args.job.now in
    let from = c.args.from in
    let word = run_is c.args.text.now from c.args.to (order g there) c.requires.inside is_word_byte (place g there) (within g there) in
    record {
      items = c.in_ok-push-2.ensures.items
          ∙ pushed-next pair (xs g there) c.args.block.now.items c.loop-i.i (below g there) c.loop-i.block.items
          c.loop-i.invariant.items c.in_ok-pair-2.field-0
          (c.in_ok-pair-2.ensures.same
          ∙ ap (λ t. pair (map lower (slice_range t (from + get_or c.word_edges-count.new.edges (2 * c.loop-i.i) 0)
          (from + get_or c.word_edges-count.new.edges (2 * c.loop-i.i + 1) 0)))) (sym c.requires.text)
          ∙ ap₂ (λ a b. pair (map lower (slice_range c.args.text.now (from + a) (from + b)))) (start g there) (end g there)
          ∙ ap (λ w. pair (map lower w)) word);
      allowed = All-same (Fine g) c.push-in-loop-i.new.self.items (c.loop-i.block.items ++ c.in_ok-pair-2.field-0 ∷ [])
          c.in_ok-push-2.ensures.items
          (All-push (Fine g) c.loop-i.block.items c.in_ok-pair-2.field-0 c.loop-i.invariant.allowed c.in_ok-pair-2.ensures.allowed);
    }

pub returns-clause-ok : goal.returns-clause-ok
returns-clause-ok g c =
    let xs = slice_range c.args.text.now c.args.from c.args.to in
    let es = c.word_edges-count.new.edges in
    let count = c.word_edges-count.result in
    let inside : count ≤ length es =
    omega (arith, c.word_edges-count.ensures.bound, c.word_edges-count.ensures.same, c.requires.room, c.if-to-from-gt-STRIP.false) in
    let all : length (word_places xs) ≤ c.loop-i.i =
    omega (arith, number is_word_byte xs es count inside c.word_edges-count.ensures.edges, c.loop-i-test.false) in
    pushed-all (g.J.WordJob.pair_of c.args.job.now) xs c.args.block.now.items c.loop-i.i all c.loop-i.block.items c.loop-i.invariant.items
