use Rattle.std.proofs.Common.{◌≡◌, ◌≤◌, ℕ, List, min, ◌∙◌, refl, arith}
use Rattle.std.specs.Cmp.Lexicographic.{slice_cmp}
use Rattle.std.specs.Ordering.{nat_cmp}
use Rattle.std.proofs.lemmas.Bool.Decides.{nat_tests}
use Rattle.mr_base.specs.Leads.{first_decides, second_decides, length_decides, rest_decides}
use Rattle.mr_base.proofs.Kept.{long, short_order}
use Rattle.mr_base.proofs.borrowed.SliceKeyOrd.cmp.Goals.{then-self-le16-via-then-self-le16}
use Rattle.mr_base.proofs.borrowed.SliceKeyOrd.cmp.Goals.{then-self-le16-via-else-self-le16+then-other-le16}
use Rattle.mr_base.proofs.borrowed.SliceKeyOrd.cmp.Goals as goal

seen : {a b s t : List ℕ} → a ≡ s → b ≡ t → slice_cmp nat_cmp a b ≡ slice_cmp nat_cmp s t
seen p q = rw (p, q) refl

pub returns-then-self-other : goal.returns-then-self-other
returns-then-self-other c =
    c.cmp.ensures ∙ first_decides c.self.invariant.words c.other.invariant.words c.if-self-other.true ∙ seen c.self.view_is c.other.view_is

pub returns-then-self-other-2 : goal.returns-then-self-other-2
returns-then-self-other-2 c = c.cmp-then-self-other-2.ensures
    ∙ second_decides c.self.invariant.words c.other.invariant.words c.if-self-other.false c.if-self-other-2.true
    ∙ seen c.self.view_is c.other.view_is

one_short : (c : goal.After-cmp-then-self-le16) → min c.self.inside.len c.other.inside.len ≤ 16
one_short c =
    elim c.then-self-le16.branch [
      | then-self-le16-via-then-self-le16 w ↦ omega (arith, w.if-self-le16.true)
      | then-self-le16-via-else-self-le16+then-other-le16 w ↦ omega (arith, w.if-other-le16.true)
    ]

shorter : (k l m n : ℕ) → k ≡ min m 4294967295 → l ≡ min n 4294967295 → min k l ≤ 16 → min m n ≤ 16
shorter k l m n p q h = grind (arith, nat_tests)

pub returns-then-self-le16 : goal.returns-then-self-le16
returns-then-self-le16 c =
    let s = c.self.invariant.is_len in
    let o = c.other.invariant.is_len in
    c.cmp-then-self-le16.ensures
    ∙ short_order _ _ _ _ s o (one_short c)
    ∙ length_decides c.self.invariant.words c.other.invariant.words c.if-self-other.false c.if-self-other-2.false
    (shorter _ _ _ _ s o (one_short c))
    ∙ seen c.self.view_is c.other.view_is

pub returns : goal.returns
returns c =
    c.order_past.ensures
    ∙ rest_decides c.self.invariant.words c.other.invariant.words c.if-self-other.false c.if-self-other-2.false
    (long _ _ c.self.invariant.is_len (omega (arith, c.if-self-le16.false)))
    (long _ _ c.other.invariant.is_len (omega (arith, c.if-other-le16.false)))
    ∙ seen c.self.view_is c.other.view_is
