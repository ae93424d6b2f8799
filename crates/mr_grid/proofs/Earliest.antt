-- The first of some tests that holds, where others come before it.
use Rattle.std.proofs.Common.{◌≡◌, Bool, true, false, cond, List, [], ◌∷◌, ◌++◌, find, Some, None, option_map, refl}
use Rattle.mr_items.specs.declared.BitmapFault.{BitmapFault}
use Rattle.mr_grid.specs.Pixels.{first_fault}

pub first_fault-none : (before after : List (Bool × BitmapFault)) → first_fault before ≡ None
    → first_fault (before ++ after) ≡ first_fault after
first_fault-none [] after e = refl
first_fault-none (t ∷ ts) after e = by t.0 e (first_fault-none ts after)
  where
    by : (b : Bool) → option_map (λ t. t.1) (cond b (Some t) (find (λ t. t.0) ts)) ≡ None
        → (first_fault ts ≡ None → first_fault (ts ++ after) ≡ first_fault after)
        → option_map (λ t. t.1) (cond b (Some t) (find (λ t. t.0) (ts ++ after))) ≡ first_fault after
    by true k rest = absurd (cc)
    by false k rest = rest k

pub first_fault-some : (before after : List (Bool × BitmapFault)) (f : BitmapFault) → first_fault before ≡ Some f
    → first_fault (before ++ after) ≡ Some f
first_fault-some [] after f e = absurd (cc)
first_fault-some (t ∷ ts) after f e = by t.0 e (first_fault-some ts after f)
  where
    by : (b : Bool) → option_map (λ t. t.1) (cond b (Some t) (find (λ t. t.0) ts)) ≡ Some f
        → (first_fault ts ≡ Some f → first_fault (ts ++ after) ≡ Some f)
        → option_map (λ t. t.1) (cond b (Some t) (find (λ t. t.0) (ts ++ after))) ≡ Some f
    by true k rest = k
    by false k rest = rest k
