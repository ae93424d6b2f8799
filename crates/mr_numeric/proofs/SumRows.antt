-- The rows of a round whose folds are sums.
use Rattle.std.proofs.Common.{◌≡◌, ℕ, ℤ, pos, Bool, true, false, cond, List, [], ◌∷◌, Option, Some, None, refl, arith}
use Rattle.std.specs.Prelude.{nat_le, option_map, IfSome}
use Rattle.std.specs.List.{All, filter_map, cons_option}
use Rattle.std.specs.Ordering.{nat_cmp}
use Rattle.std.proofs.lemmas.Bool.{leb-true}
use Rattle.std.proofs.lemmas.List.Elements.{All-cons, All-nil}
use Rattle.mr_defs.specs.Emission.{Emission}
use Rattle.mr_defs.specs.Folded.{limit, magnitude, total, sum_folded}
use Rattle.mr_defs.specs.Keyed.{at, keys_inside}
use Rattle.mr_defs.specs.Rows.{rows_of}
use Rattle.mr_numeric.proofs.SumsOf.{sum_small}
use Rattle.mr_numeric.specs.Sums.{IsSum, AreSums}

module _ {X Y : Type 0} (P : Y → Type 0) (f : X → Option Y) where
  pub with_one : (o : Option Y) (ys : List Y) → IfSome o P → All P ys → All P (cons_option o ys)
  with_one None ys h rest = rest
  with_one (Some y) ys h rest = All-cons P y ys h rest

  -- what is given has a property, where each that is given does
  pub all_given : ((x : X) → IfSome (f x) P) → (xs : List X) → All P (filter_map f xs)
  all_given h [] = All-nil P
  all_given h (x ∷ xs) = with_one (f x) (filter_map f xs) (h x) (all_given h xs)

row_is_sum : (k : ℕ) (vs : List ℤ) → IfSome (option_map (λ a. (k, a)) (sum_folded vs)) IsSum
row_is_sum k vs = by (nat_le (magnitude vs) limit) refl
  where
    by : (b : Bool) → nat_le (magnitude vs) limit ≡ b → IfSome (option_map (λ a. (k, a)) (cond b (Some (total vs ∷ [])) None)) IsSum
    by true e = record { one = refl; small = omega (arith, sum_small (pos 0) vs, leb-true (magnitude vs) limit e) }
    by false e = tt

-- the rows of sums that aren't over
pub are_sums : (inside : ℕ → Bool) (es : List (Emission ℕ ℤ)) → AreSums (rows_of nat_cmp inside sum_folded es)
are_sums inside es = all_given IsSum (λ k. option_map (λ a. (k, a)) (sum_folded (at nat_cmp es k))) (λ k. row_is_sum k (at nat_cmp es k))
    (keys_inside nat_cmp inside es)
