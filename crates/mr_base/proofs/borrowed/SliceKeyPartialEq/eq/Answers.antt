use Rattle.std.proofs.Common.{◌≡◌, ℕ, List, true, false, ◌&&◌, nat_eq, ap, ◌∙◌, refl, arith}
use Rattle.std.proofs.Common.{is_eq}
use Rattle.std.proofs.lemmas.Bool.{le-leb}
use Rattle.std.specs.Cmp.Lexicographic.{slice_cmp}
use Rattle.std.specs.Ordering.{nat_cmp}
use Rattle.std.proofs.lemmas.Bool.Decides.{nat_tests}
use Rattle.mr_base.specs.Leads.{words_differ, words_tie, rest_decides}
use Rattle.mr_base.proofs.Kept.{short, long, both_same, short_same}
use Rattle.mr_base.proofs.borrowed.SliceKeyPartialEq.eq.Goals as goal

seen : {a b s t : List ℕ} → a ≡ s → b ≡ t → is_eq (slice_cmp nat_cmp a b) ≡ is_eq (slice_cmp nat_cmp s t)
seen p q = rw (p, q) refl

-- the test of two words and the lengths
some_differ : (k l m n s t : ℕ) → (nat_eq k l && nat_eq m n && nat_eq s t) ≡ false → k ≡ l → m ≡ n → s ≡ t → ⊥
some_differ k l m n s t h e f g = grind (arith, nat_tests)

first_same : (k l m n s t : ℕ) → (nat_eq k l && nat_eq m n && nat_eq s t) ≡ true → k ≡ l
first_same k l m n s t h = grind (arith, nat_tests)

second_same : (k l m n s t : ℕ) → (nat_eq k l && nat_eq m n && nat_eq s t) ≡ true → m ≡ n
second_same k l m n s t h = grind (arith, nat_tests)

third_same : (k l m n s t : ℕ) → (nat_eq k l && nat_eq m n && nat_eq s t) ≡ true → s ≡ t
third_same k l m n s t h = grind (arith, nat_tests)

pub returns-then-not-words : goal.returns-then-not-words
returns-then-not-words c =
    words_differ c.self.invariant.words c.other.invariant.words
    (λ e f g. some_differ _ _ _ _ _ _ c.if-not-words.true e f
    (both_same c.self.inside.len c.other.inside.len _ _ c.self.invariant.is_len c.other.invariant.is_len g))
    ∙ seen c.self.view_is c.other.view_is

-- the two words and the length of each
module _ (first second third : ℕ) (x y z : ℕ) (all : (nat_eq first x && nat_eq second y && nat_eq third z) ≡ true) where
  first_tie : first ≡ x
  first_tie = first_same first x second y third z all

  second_tie : second ≡ y
  second_tie = second_same first x second y third z all

  third_tie : third ≡ z
  third_tie = third_same first x second y third z all

pub returns-then-self-le16 : goal.returns-then-self-le16
returns-then-self-le16 c =
    let s = c.self.inside in
    let o = c.other.inside in
    let all = c.if-not-words.false in
    le-leb s.len 16 c.if-self-le16.true
    ∙ words_tie c.self.invariant.words c.other.invariant.words
    (first_tie s.first s.second s.len o.first o.second o.len all) (second_tie s.first s.second s.len o.first o.second o.len all)
    (short_same s.len o.len _ _ c.self.invariant.is_len c.other.invariant.is_len
    (third_tie s.first s.second s.len o.first o.second o.len all) c.if-self-le16.true)
    (short s.len _ c.self.invariant.is_len c.if-self-le16.true)
    ∙ seen c.self.view_is c.other.view_is

pub returns-else-self-le16 : goal.returns-else-self-le16
returns-else-self-le16 c =
    let s = c.self.inside in
    let o = c.other.inside in
    let all = c.if-not-words.false in
    c.is_eq.ensures
    ∙ ap is_eq (c.order_past.ensures ∙ rest_decides c.self.invariant.words c.other.invariant.words
    (first_tie s.first s.second s.len o.first o.second o.len all) (second_tie s.first s.second s.len o.first o.second o.len all)
    (long s.len _ c.self.invariant.is_len (omega (arith, c.if-self-le16.false)))
    (long o.len _ c.other.invariant.is_len
    (omega (arith, c.if-self-le16.false, third_tie s.first s.second s.len o.first o.second o.len all))))
    ∙ seen c.self.view_is c.other.view_is
