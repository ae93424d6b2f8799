use Rattle.std.proofs.Common.{◌≡◌, ◌≢◌, ◌≤◌, ◌<◌, ℕ, ℤ, cond, negsuc, [], ◌∷◌, ◌++◌, pos, map, length, get_or, sym, ◌∙◌, ap, arith}
use Rattle.std.proofs.Common.{append-nil}
use Rattle.std.specs.Prelude.{slice_range}
use Rattle.std.proofs.Math.IntN.{pos-ne-negsuc}
use Rattle.std.proofs.Math.Seq.{map-set_same}
use Rattle.std.proofs.lemmas.List.{length-map}
use Rattle.std.proofs.lemmas.List.Elements.{All-push, All-same, All-set}
use Rattle.mr_defs.specs.Folded.{limit}
use Rattle.mr_items.specs.StringMatch.{stands_in}
use Rattle.mr_lines.specs.Searches.{IsNext}
use Rattle.mr_lines.proofs.Searching.{numbered, standing-pushed}
use Rattle.mr_lines.proofs.string_match.push_standing.Goals.{then-stands+in_ok-push, else-stands}
use Rattle.mr_lines.proofs.string_match.push_standing.Goals as goal

abbrev Fine : ℕ × ℤ → Type 0
Fine p = (p.0 ≤ limit) × (p.1 ≢ negsuc limit)

pub loop-number-preserved : goal.loop-number-preserved
loop-number-preserved c =
    let xs = c.loop-number.searches.items in
    let i = c.loop-number.number in
    let s = c.index_mut.result.now in
    let patterns = map (λ x. x.finder) c.args.searches.now.items in
    let line = slice_range c.args.text.now c.args.from c.args.to in
    let inv = c.loop-number.invariant in
    let known : i < length patterns =
    omega (arith, c.loop-number-test.true, c.len-number-end.ensures, length-map c.args.searches.now.items (λ x. x.finder)) in
    let below : i < length xs = omega (arith, known, length-map xs (λ x. x.finder), ap length inv.finders) in
    let stood : c.stands.result ≡ stands_in line (get_or patterns i []) =
    c.stands.ensures.same ∙ ap (stands_in line) (sym (numbered xs patterns i s inv.finders below c.index_mut.ensures.value)) in
    record {
      next = All-set
          (λ x. IsNext c.args.text.now x.finder c.args.stop c.args.from x.next) xs i c.stands.new.search c.stands.ensures.next inv.next;
      finders = map-set_same (λ x. x.finder) xs i c.stands.new.search s
          (c.stands.ensures.finder ∙ ap (λ x. x.finder) c.index_mut.ensures.value) ∙ inv.finders;
      pairs = elim c.if-stands.branch [
        | then-stands+in_ok-push w ↦ standing-pushed patterns line c.args.block.now.items c.loop-number.block.items c.if-stands.block.items
            i c.stands.result known stood inv.pairs
            (ap (λ v. v.items) w.block-is ∙ w.in_ok-push.ensures.items
            ∙ ap (λ b. c.loop-number.block.items ++ cond b ((i, pos 1) ∷ []) []) (sym w.if-stands.true))
        | else-stands w ↦ standing-pushed patterns line c.args.block.now.items c.loop-number.block.items c.if-stands.block.items i
            c.stands.result known stood inv.pairs
            (ap (λ v. v.items) w.block-is ∙ sym (append-nil c.loop-number.block.items)
            ∙ ap (λ b. c.loop-number.block.items ++ cond b ((i, pos 1) ∷ []) []) (sym w.if-stands.false))
      ];
      allowed = elim c.if-stands.branch [
        | then-stands+in_ok-push w ↦ All-same Fine c.if-stands.block.items (c.loop-number.block.items ++ (i, pos 1) ∷ [])
            (ap (λ v. v.items) w.block-is ∙ w.in_ok-push.ensures.items)
            (All-push Fine c.loop-number.block.items (i, pos 1) inv.allowed
            (omega (arith, below, c.loop-number.searches.small), pos-ne-negsuc 1 limit))
        | else-stands w ↦ All-same Fine c.if-stands.block.items c.loop-number.block.items (ap (λ v. v.items) w.block-is) inv.allowed
      ];
    }
