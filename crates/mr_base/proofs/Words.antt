-- Words of a list of bytes, read a byte at a time, their bytes, and folds and orders that go on from a place.
use Rattle.std.proofs.Common.{zero, suc, ◌≡◌, ℕ, ◌+◌, ◌*◌, ◌%◌, ◌^◌, ◌<◌, ◌≢◌, ◌≤◌, List, [], ◌∷◌, ◌++◌, length, min, take, drop, get_or}
use Rattle.std.proofs.Common.{bit_xor, refl, sym, ap, ap₂, ◌∙◌, arith, w64}
use Rattle.std.specs.Int.{from_be_bytes, to_be_bytes}
use Rattle.std.specs.declared.cmp.Ordering.{Ordering}
use Rattle.std.specs.Cmp.Lexicographic.{slice_cmp}
use Rattle.std.specs.Ordering.{nat_cmp, ordering_then}
use Rattle.std.proofs.lemmas.Bool.Decides.{nat_tests}
use Rattle.std.proofs.lemmas.List.{drop_more, drop_all}
use Rattle.std.proofs.lemmas.Nat.{be_bytes_8}
use Rattle.mr_base.specs.Hash.{fnv1a_from}
use Rattle.mr_base.specs.Leads.{high, AreBytes, HasWords, is_digit, high_none, tied_first, suc_cmp}

drop_none : (k : ℕ) → drop {A = ℕ} k [] ≡ []
drop_none zero = refl
drop_none (suc k) = refl

next_digit : (n k j : ℕ) (ks : List ℕ) → AreBytes ks → j ≡ k + 1 → high (suc n) (drop k ks) ≡ get_or ks k 0 * 256 ^ n + high n (drop j ks)
next_digit n k j [] h e = rw (drop_none k, drop_none j, high_none (suc n), high_none n) (omega arith)
next_digit n zero j (b ∷ ks) h e = let f : j ≡ suc zero = omega arith in rw f (is_digit n b ks h.0)
next_digit n (suc k) j (b ∷ ks) h e = let f : j ≡ suc (k + 1) = omega arith in rw f (next_digit n k (k + 1) ks h.1 refl)

no_digit : (ks : List ℕ) → high 0 ks ≡ 0
unfolding high
no_digit ks = refl

pub word : (ks : List ℕ) (k a b c d e f g h : ℕ) → AreBytes ks → a ≡ get_or ks k 0 → b ≡ get_or ks (k + 1) 0 → c ≡ get_or ks (k + 2) 0
    → d ≡ get_or ks (k + 3) 0 → e ≡ get_or ks (k + 4) 0 → f ≡ get_or ks (k + 5) 0
    → g ≡ get_or ks (k + 6) 0 → h ≡ get_or ks (k + 7) 0 → from_be_bytes w64 (a ∷ b ∷ c ∷ d ∷ e ∷ f ∷ g ∷ h ∷ []) ≡ high 8 (drop k ks)
word ks k a b c d e f g h all pa pb pc pd pe pf pg ph =
    omega (
      arith,
      next_digit 7 k (k + 1) ks all refl,
      next_digit 6 (k + 1) (k + 2) ks all (omega arith),
      next_digit 5 (k + 2) (k + 3) ks all (omega arith),
      next_digit 4 (k + 3) (k + 4) ks all (omega arith),
      next_digit 3 (k + 4) (k + 5) ks all (omega arith),
      next_digit 2 (k + 5) (k + 6) ks all (omega arith),
      next_digit 1 (k + 6) (k + 7) ks all (omega arith),
      next_digit 0 (k + 7) (k + 8) ks all (omega arith),
      no_digit (drop (k + 8) ks),
    )

-- ---- the bytes of two words

at_byte : (ks : List ℕ) (i : ℕ) → AreBytes ks → get_or ks i 0 < 256
at_byte [] i h = omega arith
at_byte (b ∷ ks) zero h = h.0
at_byte (b ∷ ks) (suc i) h = at_byte ks i h.1

pub bytes_of_word : (ks : List ℕ) (k : ℕ) → AreBytes ks
    → to_be_bytes w64 (high 8 (drop k ks))
    ≡ get_or ks k 0 ∷ get_or ks (k + 1) 0 ∷ get_or ks (k + 2) 0 ∷ get_or ks (k + 3) 0 ∷ get_or ks (k + 4) 0 ∷ get_or ks (k + 5) 0
    ∷ get_or ks (k + 6) 0 ∷ get_or ks (k + 7) 0 ∷ []
bytes_of_word ks k h =
    let bytes : List ℕ = get_or ks k 0 ∷ get_or ks (k + 1) 0 ∷ get_or ks (k + 2) 0 ∷ get_or ks (k + 3) 0 ∷ get_or ks (k + 4) 0
    ∷ get_or ks (k + 5) 0 ∷ get_or ks (k + 6) 0 ∷ get_or ks (k + 7) 0 ∷ [] in
    let all : AreBytes bytes = (
      at_byte ks k h,
      (
        at_byte ks (k + 1) h,
        (
          at_byte ks (k + 2) h,
          (at_byte ks (k + 3) h, (at_byte ks (k + 4) h, (at_byte ks (k + 5) h, (at_byte ks (k + 6) h, (at_byte ks (k + 7) h, tt))))),
        ),
      ),
    ) in
    be_bytes_8 bytes (high 8 (drop k ks)) refl (λ i. at_byte bytes i all)
    (sym (word ks k _ _ _ _ _ _ _ _ h refl refl refl refl refl refl refl refl))

-- n numbers of a list from a place on, and 0 past its end
padded : ℕ → ℕ → List ℕ → List ℕ
padded zero k ks = []
padded (suc n) k ks = get_or ks k 0 ∷ padded n (k + 1) ks

front : (n k m : ℕ) (ks : List ℕ) → length ks ≡ k + m → m ≤ n → take m (padded n k ks) ≡ drop k ks
unfolding padded
front n k zero ks e h = sym (drop_all k ks (omega arith))
front zero k (suc m) ks e h = absurd (omega arith)
front (suc n) k (suc m) ks e h =
    rw (drop_more ks k 0 (omega arith)) (ap (λ l. get_or ks k 0 ∷ l) (front n (k + 1) m ks (omega arith) (omega arith)))

-- the two words of a short list have its bytes
pub bytes_of_words : (ks : List ℕ) (first second len : ℕ) → HasWords ks first second → len ≡ length ks → len ≤ 16
    → take len (to_be_bytes w64 first ++ to_be_bytes w64 second) ≡ ks
unfolding padded
bytes_of_words ks first second len h e short =
    ap₂ (λ a b. take len (a ++ b)) (ap (to_be_bytes w64) h.is_first ∙ bytes_of_word ks 0 h.are_bytes)
    (ap (to_be_bytes w64) h.is_second ∙ bytes_of_word ks 8 h.are_bytes) ∙ front 16 0 len ks (omega arith) short

-- ---- folds and orders that go on

pub fnv1a_more : (ks : List ℕ) (k state b : ℕ) → k < length ks → b ≡ get_or ks k 0
    → fnv1a_from state (drop k ks) ≡ fnv1a_from ((bit_xor state b * 1099511628211) % 2 ^ 64) (drop (k + 1) ks)
fnv1a_more ks k state b h e = rw (e, drop_more ks k 0 h) refl

pub order_more : (a b : List ℕ) (k x y : ℕ) → k < length a → k < length b → x ≡ get_or a k 0 → y ≡ get_or b k 0 → x ≡ y
    → slice_cmp nat_cmp (drop k a) (drop k b) ≡ slice_cmp nat_cmp (drop (k + 1) a) (drop (k + 1) b)
order_more a b k x y h i p q e = rw (drop_more a k 0 h, drop_more b k 0 i)
    (tied_first (get_or a k 0) (get_or b k 0) (slice_cmp nat_cmp (drop (k + 1) a) (drop (k + 1) b)) (sym p ∙ e ∙ q))

untied_first : (x y : ℕ) (o : Ordering) → x ≢ y → ordering_then (nat_cmp x y) o ≡ nat_cmp x y
untied_first x y o e = grind (arith, nat_tests)

pub order_here : (a b : List ℕ) (k x y : ℕ) → k < length a → k < length b → x ≡ get_or a k 0 → y ≡ get_or b k 0 → x ≢ y
    → slice_cmp nat_cmp (drop k a) (drop k b) ≡ nat_cmp x y
order_here a b k x y h i p q e = rw (drop_more a k 0 h, drop_more b k 0 i, p, q)
    (untied_first (get_or a k 0) (get_or b k 0) (slice_cmp nat_cmp (drop (k + 1) a) (drop (k + 1) b)) (λ f. e (p ∙ f ∙ sym q)))

pub order_end : (a b : List ℕ) (k : ℕ) → k ≡ min (length a) (length b)
    → slice_cmp nat_cmp (drop k a) (drop k b) ≡ nat_cmp (length a) (length b)
order_end [] [] zero e = refl
order_end [] (y ∷ b) zero e = grind (arith, nat_tests)
order_end (x ∷ a) [] zero e = grind (arith, nat_tests)
order_end (x ∷ a) (y ∷ b) zero e = absurd (omega arith)
order_end [] b (suc k) e = absurd (omega arith)
order_end (x ∷ a) [] (suc k) e = absurd (omega arith)
order_end (x ∷ a) (y ∷ b) (suc k) e = order_end a b k (omega arith) ∙ suc_cmp (length a) (length b)
