use Rattle.std.proofs.Common.{◌≡◌, inl, inr, ◌≤◌, ◌<◌, ◌+◌, ◌-◌, ℕ, true, get_or, take, sym, ap, ◌∙◌, arith, rules}
use Rattle.std.proofs.lemmas.Bool.{cases_lt}
use Rattle.std.proofs.lemmas.List.{get_or-take, length-take-le}
use Rattle.mr_items.specs.Words.{is_word_byte, is_word_boundary}
use Rattle.mr_text.proofs.Scans.{run_passes, run_stops, boundary_from_other}
use Rattle.mr_text.proofs.strips.strip_end.Goals as goal

pub loop-cut-preserved : goal.loop-cut-preserved
loop-cut-preserved c = record {
  later = omega (arith, c.loop-cut-test.true);
  before = omega (arith, c.loop-cut.invariant.before);
  all = λ k from below. elim (cases_lt k c.loop-cut.cut) [
    | inl first ↦ let same : k ≡ c.loop-cut.cut - 1 = omega (arith, first, from) in
        ap (λ i. is_word_byte (get_or c.args.text.now i 0)) same ∙ sym c.is_word_byte.ensures ∙ search rules
    | inr later ↦ c.loop-cut.invariant.all k later below
  ];
}

-- each byte from the start of the strip up to the end of the word
in_word : (c : goal.After-word_end) (k : ℕ) → c.args.at ≤ k → k < c.word_end.result → is_word_byte (get_or c.args.text.now k 0) ≡ true
in_word c k from below = elim (cases_lt k (c.args.at + 1024)) [
  | inl first ↦ c.loop-cut.invariant.all k (omega (arith, from, c.loop-cut-test.false, c.loop-cut.invariant.later)) first
  | inr later ↦ sym (ap is_word_byte
      (get_or-take c.args.end c.args.text.now k 0
      (omega (arith, below, c.word_end.ensures.inside, length-take-le c.args.end c.args.text.now c.requires.inside))))
      ∙ run_passes is_word_byte (take c.args.end c.args.text.now) (c.args.at + 1024) k later
      (omega (arith, below, c.word_end.ensures.place))
]

pub returns-clause-long : goal.returns-clause-long
returns-clause-long c = λ more k from below. in_word c k from below

pub returns-clause-between : goal.returns-clause-between
returns-clause-between c =
    let front = length-take-le c.args.end c.args.text.now c.requires.inside in
    let e = c.word_end.result in
    elim (cases_lt e c.args.end) [
      | inl below ↦ boundary_from_other c.args.text.now e
          (ap is_word_byte (sym (get_or-take c.args.end c.args.text.now e 0 below)
          ∙ ap (λ k. get_or (take c.args.end c.args.text.now) k 0) c.word_end.ensures.place)
          ∙ run_stops is_word_byte (take c.args.end c.args.text.now) (c.args.at + 1024)
          (omega (arith, below, front, c.word_end.ensures.place)))
      | inr there ↦ let same : e ≡ c.args.end = omega (arith, there, front, c.word_end.ensures.inside) in
          ap (is_word_boundary c.args.text.now) same ∙ c.requires.ends
    ]
