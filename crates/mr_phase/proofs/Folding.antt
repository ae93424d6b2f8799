-- Entries whose equal neighbours are merged: each key has what all its entries had, and where the keys didn't fall they ascend.
use Rattle.std.proofs.Common.{◌≡◌, Bool, true, false, ◌&&◌, if◌then◌else◌, T, List, [], ◌∷◌, ◌++◌, append-nil, append_assoc, filter_map}
use Rattle.std.proofs.Common.{Option, Some, None, refl, sym, ap, subst, ◌∙◌, true≢false, Bor}
use Rattle.std.specs.List.{AllByRecursion, cons_option}
use Rattle.std.specs.declared.cmp.Ordering.{Ordering}
use Rattle.std.specs.declared.cmp.Ordering.TheVariants.{Less, Equal, Greater}
use Rattle.std.specs.Ordering.{eq_by_cmp, is_lt, is_eq, ordering_reverse}
use Rattle.std.specs.Cmp.{IsTotalOrder}
use Rattle.std.specs.FinMap.{IsAntisymmetric, is_sorted}
use Rattle.std.specs.FinMap.Entries.{below_all}
use Rattle.mr_defs.specs.Commutative.{IsCommutative, joined, joined_by}
use Rattle.mr_defs.specs.CommutativeLaws.{joined-assoc}
use Rattle.mr_container.proofs.Orders.{is_Equal}
use Rattle.mr_defs.specs.Emission.{Answer}
use Rattle.mr_defs.specs.Keyed.{lesser}
use Rattle.mr_container.specs.Entries.{cell_in, seen_of}
use Rattle.mr_phase.specs.Folded.{fold_from, fold_equal}
use Rattle.mr_phase.specs.Partition.{AreFolded}
use Rattle.mr_phase.specs.Reduced.{entry_row, over_key}
use Rattle.mr_phase.specs.Taking.{AreInOrder, AreTaken}
use Rattle.mr_phase.specs.declared.ahead.Ahead.{Ahead}
use Rattle.mr_phase.specs.declared.partition.Partition.{Partition}

abbrev pub both : (a b : Bool) → T a → T b → T (a && b)
both true b p q = q
both false b p q = p

module _ {K C : Type 0} (R : K → K → Ordering) where
  -- no key of the list is below x
  abbrev pub AreFrom : K → List (K × C) → Type 0
  AreFrom x es = AllByRecursion (λ e. is_lt (R e.0 x) ≡ false) es

  -- the keys don't fall
  abbrev pub Rises : List (K × C) → Type 0
  Rises [] = Unit {0}
  Rises (e ∷ es) = AreFrom e.0 es × Rises es

module _ {K : Type 0} {R : K → K → Ordering} (o : IsTotalOrder R) where
  pub less : (x y : K) → is_lt (R y x) ≡ false → eq_by_cmp R x y ≡ false → R x y ≡ Less
  less x y h differs = elim (R x y) as (λ r. R x y ≡ r → r ≡ Less) [
    | Less ↦ λ e. refl
    | Equal ↦ λ e. absurd (true≢false (sym (ap is_eq e) ∙ differs))
    | Greater ↦ λ e. absurd (true≢false (sym (ap is_lt (o.antisymm y x ∙ ap ordering_reverse e)) ∙ h))
  ] refl

module _ {K C : Type 0} {R : K → K → Ordering} (o : IsTotalOrder R) (one : IsAntisymmetric R) {merged : C → C → C}
    (laws : IsCommutative merged) where
  -- by whether the next entry has the same key
  branch : (P : List (K × C) → Type 0) (k : K) (c : C) (e : K × C) (es : List (K × C))
      → (eq_by_cmp R k e.0 ≡ true → P (fold_from R merged k (merged c e.1) es))
      → (eq_by_cmp R k e.0 ≡ false → P ((k, c) ∷ fold_from R merged e.0 e.1 es)) → P (fold_from R merged k c (e ∷ es))
  branch P k c e es same other = elim (eq_by_cmp R k e.0) as (λ b. eq_by_cmp R k e.0 ≡ b
      → P (if b then fold_from R merged k (merged c e.1) es else (k, c) ∷ fold_from R merged e.0 e.1 es)) [ true ↦ same | false ↦ other ]
      refl

  is_below : (x y : K) → R x y ≡ Less → T (is_lt (R x y))
  is_below x y h = subst (λ r. T (is_lt r)) (sym h) tt

  below_from : (x k : K) (c : C) (es : List (K × C)) → R x k ≡ Less → Rises R ((k, c) ∷ es) → T (below_all R x (fold_from R merged k c es))
  below_from x k c [] h r = both _ _ (is_below x k h) tt
  below_from x k c (e ∷ es) h r = branch (λ l. T (below_all R x l)) k c e es
      (λ same. below_from x k (merged c e.1) es h (r.0.1, r.1.1))
      (λ other. both _ _ (is_below x k h) (below_from x e.0 e.1 es (o.trans x k e.0 h (less o k e.0 r.0.0 other)) r.1))

  sorted_from : (k : K) (c : C) (es : List (K × C)) → Rises R ((k, c) ∷ es) → T (is_sorted R (fold_from R merged k c es))
  sorted_from k c [] r = tt
  sorted_from k c (e ∷ es) r = branch (λ l. T (is_sorted R l)) k c e es
      (λ same. sorted_from k (merged c e.1) es (r.0.1, r.1.1))
      (λ other. both _ _ (below_from k e.0 e.1 es (less o k e.0 r.0.0 other) r.1) (sorted_from e.0 e.1 es r.1))

  pub folded_sorted : (es : List (K × C)) → Rises R es → T (is_sorted R (fold_equal R merged es))
  folded_sorted [] r = tt
  folded_sorted (e ∷ es) r = sorted_from e.0 e.1 es r

  module _ (q : K) where
    -- a key that stands in two neighbours
    two : (k : K) (c d : C) (rest : Option C) (b : Bool)
        → joined merged (if b then Some (merged c d) else None) rest
        ≡ joined merged (if b then Some c else None) (joined merged (if b then Some d else None) rest)
    two k c d rest true = joined-assoc laws (Some c) (Some d) rest
    two k c d rest false = refl

    same_from : (k : K) (c : C) (es : List (K × C))
        → joined_by merged (cell_in R q) (fold_from R merged k c es) ≡ joined_by merged (cell_in R q) ((k, c) ∷ es)
    same_from k c [] = refl
    same_from k c (e ∷ es) = branch (λ l. joined_by merged (cell_in R q) l ≡ joined_by merged (cell_in R q) ((k, c) ∷ e ∷ es)) k c e es
        (λ same. same_from k (merged c e.1) es
        ∙ two k c e.1 (joined_by merged (cell_in R q) es) (eq_by_cmp R q k)
        ∙ ap (λ x. joined merged (cell_in R q (k, c))
        (joined merged (if eq_by_cmp R q x then Some e.1 else None) (joined_by merged (cell_in R q) es)))
        (one k e.0 (is_Equal (R k e.0) same)))
        (λ other. ap (joined merged (cell_in R q (k, c))) (same_from e.0 e.1 es))

    pub folded_same : (es : List (K × C)) → joined_by merged (cell_in R q) (fold_equal R merged es) ≡ joined_by merged (cell_in R q) es
    folded_same [] = refl
    folded_same (e ∷ es) = same_from e.0 e.1 es

-- an entry that is done: what it gives is put behind what the entries before it gave
module _ {K C : Type 0} (R : K → K → Ordering) (merged : C → C → C) (k : K) (c : C) (e : K × C) (all rest : List (K × C))
    (is : all ≡ e ∷ rest) (other : eq_by_cmp R k e.0 ≡ false) where
  split : fold_from R merged k c all ≡ (k, c) ∷ fold_from R merged e.0 e.1 rest
  split = ap (fold_from R merged k c) is
      ∙ ap (λ b. if b then fold_from R merged k (merged c e.1) rest else (k, c) ∷ fold_from R merged e.0 e.1 rest) other

  pub put_row : {Y : Type 0} (f : K × C → Option Y) (rows rows' whole : List Y) → rows' ≡ rows ++ cons_option (f (k, c)) []
      → rows ++ filter_map f (fold_from R merged k c all) ≡ whole → rows' ++ filter_map f (fold_from R merged e.0 e.1 rest) ≡ whole
  put_row {Y} f rows rows' whole put so_far =
      ap (λ l. l ++ filter_map f (fold_from R merged e.0 e.1 rest)) put
      ∙ behind (f (k, c)) rows (filter_map f (fold_from R merged e.0 e.1 rest)) ∙ ap (λ l. rows ++ filter_map f l) (sym split) ∙ so_far
    where
      behind : (x : Option Y) (xs ys : List Y) → (xs ++ cons_option x []) ++ ys ≡ xs ++ cons_option x ys
      behind None xs ys = ap (λ l. l ++ ys) (append-nil xs)
      behind (Some x) xs ys = append_assoc xs (x ∷ []) ys

  pub put_key : {Y : Type 0} {op : Y → Y → Y} → IsCommutative op → (f : K × C → Option Y) (least least' whole : Option Y)
      → least' ≡ joined op least (f (k, c)) → joined op least (joined_by op f (fold_from R merged k c all)) ≡ whole
      → joined op least' (joined_by op f (fold_from R merged e.0 e.1 rest)) ≡ whole
  put_key {op = op} laws f least least' whole put so_far =
      ap (λ a. joined op a (joined_by op f (fold_from R merged e.0 e.1 rest))) put
      ∙ joined-assoc laws least (f (k, c)) (joined_by op f (fold_from R merged e.0 e.1 rest))
      ∙ ap (λ l. joined op least (joined_by op f l)) (sym split) ∙ so_far

module _ {K C : Type 0} (R : K → K → Ordering) (merged : C → C → C) (over : C → Bool) (answer : C → Answer) where
  -- what was made of the entries that were taken, with the last key and its cell: whatever is taken next, the rows and the least key over
  -- are those of all
  pub record IsFolding (a : Ahead K C) (key : K) (cell : C) (made : Partition K) : Type 0 where
    pub taken : List (Bor K × Bor C)
    pub are : AreTaken R taken a
    pub rows : (rest : List (K × C))
        → made.rows ++ filter_map (entry_row over answer) (fold_from R merged key cell rest)
        ≡ filter_map (entry_row over answer) (fold_equal R merged (seen_of taken ++ rest))
    pub least : (rest : List (K × C))
        → joined (lesser R) made.over (joined_by (lesser R) (over_key over) (fold_from R merged key cell rest))
        ≡ joined_by (lesser R) (over_key over) (fold_equal R merged (seen_of taken ++ rest))

  -- the list of those that were taken, with one more
  seen_more : (taken : List (Bor K × Bor C)) (e : Bor K × Bor C) (rest : List (K × C))
      → seen_of (taken ++ e ∷ []) ++ rest ≡ seen_of taken ++ (e.0.now, e.1.now) ∷ rest
  seen_more [] e rest = refl
  seen_more (x ∷ taken) e rest = ap (λ l. (x.0.now, x.1.now) ∷ l) (seen_more taken e rest)

  -- there is none
  pub folded_none : (all entries : List (Bor K × Bor C)) (made : Partition K) → made.rows ≡ [] → made.over ≡ None → entries ≡ all
      → AreInOrder R entries [] → AreFolded R merged over answer all made
  folded_none all entries made none least same whole = record {
    sorted = [];
    in_order = subst (λ l. AreInOrder R l []) same whole;
    rows_are = none;
    over_is = least;
  }

  -- the first is taken
  pub folding_first : (a : Ahead K C) (e : Bor K × Bor C) (made : Partition K) → made.rows ≡ [] → made.over ≡ None
      → AreTaken R ([] ++ e ∷ []) a → IsFolding a e.0.now e.1.now made
  folding_first a e made none least t = record {
    taken = e ∷ [];
    are = t;
    rows = λ rest. ap (λ l. l ++ filter_map (entry_row over answer) (fold_from R merged e.0.now e.1.now rest)) none;
    least = λ rest. ap (λ l. joined (lesser R) l (joined_by (lesser R) (over_key over) (fold_from R merged e.0.now e.1.now rest))) least;
  }

  -- one more is taken
  module _ (a a' : Ahead K C) (k : K) (c : C) (made : Partition K) (e : Bor K × Bor C)
      (next : (taken : List (Bor K × Bor C)) → AreTaken R taken a → AreTaken R (taken ++ e ∷ []) a') (f : IsFolding a k c made) where
    fold_next : (same : Bool) → eq_by_cmp R k e.0.now ≡ same → (rest : List (K × C))
        → fold_from R merged k c ((e.0.now, e.1.now) ∷ rest)
        ≡ (if same then fold_from R merged k (merged c e.1.now) rest else (k, c) ∷ fold_from R merged e.0.now e.1.now rest)
    fold_next same is rest =
        ap (λ b. if b then fold_from R merged k (merged c e.1.now) rest else (k, c) ∷ fold_from R merged e.0.now e.1.now rest) is

    -- of the same key
    pub folding_same : eq_by_cmp R k e.0.now ≡ true → IsFolding a' k (merged c e.1.now) made
    folding_same is = record {
      taken = f.taken ++ e ∷ [];
      are = next f.taken f.are;
      rows = λ rest. ap (λ l. made.rows ++ filter_map (entry_row over answer) l) (sym (fold_next true is rest))
          ∙ f.rows ((e.0.now, e.1.now) ∷ rest)
          ∙ ap (λ l. filter_map (entry_row over answer) (fold_equal R merged l)) (sym (seen_more f.taken e rest));
      least = λ rest. ap (λ l. joined (lesser R) made.over (joined_by (lesser R) (over_key over) l)) (sym (fold_next true is rest))
          ∙ f.least ((e.0.now, e.1.now) ∷ rest)
          ∙ ap (λ l. joined_by (lesser R) (over_key over) (fold_equal R merged l)) (sym (seen_more f.taken e rest));
    }

    -- of another key, and what the last came to is put
    pub folding_other : IsCommutative (lesser R) → (made' : Partition K) → eq_by_cmp R k e.0.now ≡ false
        → made'.rows ≡ made.rows ++ cons_option (entry_row over answer (k, c)) []
        → made'.over ≡ joined (lesser R) made.over (over_key over (k, c)) → IsFolding a' e.0.now e.1.now made'
    folding_other laws made' is put_rows put_over = record {
      taken = f.taken ++ e ∷ [];
      are = next f.taken f.are;
      rows = λ rest. put_row R merged k c (e.0.now, e.1.now) ((e.0.now, e.1.now) ∷ rest) rest refl is
          (entry_row over answer) made.rows made'.rows
          (filter_map (entry_row over answer) (fold_equal R merged (seen_of f.taken ++ (e.0.now, e.1.now) ∷ rest))) put_rows
          (f.rows ((e.0.now, e.1.now) ∷ rest))
          ∙ ap (λ l. filter_map (entry_row over answer) (fold_equal R merged l)) (sym (seen_more f.taken e rest));
      least = λ rest. put_key R merged k c (e.0.now, e.1.now) ((e.0.now, e.1.now) ∷ rest) rest refl is laws
          (over_key over) made.over made'.over
          (joined_by (lesser R) (over_key over) (fold_equal R merged (seen_of f.taken ++ (e.0.now, e.1.now) ∷ rest))) put_over
          (f.least ((e.0.now, e.1.now) ∷ rest))
          ∙ ap (λ l. joined_by (lesser R) (over_key over) (fold_equal R merged l)) (sym (seen_more f.taken e rest));
    }

  only_last : {Y : Type 0} (op : Y → Y → Y) (x : Option Y) → joined op x None ≡ x
  only_last op None = refl
  only_last op (Some x) = refl

  -- all were taken, and the last is put
  pub folding_last : (a : Ahead K C) (k : K) (c : C) (made made' : Partition K) (all : List (Bor K × Bor C)) → a.entries.items ≡ all
      → ((taken : List (Bor K × Bor C)) → AreTaken R taken a → AreInOrder R a.entries.items taken)
      → made'.rows ≡ made.rows ++ cons_option (entry_row over answer (k, c)) []
      → made'.over ≡ joined (lesser R) made.over (over_key over (k, c)) → IsFolding a k c made → AreFolded R merged over answer all made'
  folding_last a k c made made' all same whole put_rows put_over f =
      let seen : fold_equal R merged (seen_of f.taken ++ []) ≡ fold_equal R merged (seen_of f.taken) =
      ap (fold_equal R merged) (append-nil (seen_of f.taken)) in
      record {
        sorted = f.taken;
        in_order = subst (λ l. AreInOrder R l f.taken) same (whole f.taken f.are);
        rows_are = put_rows ∙ f.rows [] ∙ ap (filter_map (entry_row over answer)) seen;
        over_is = put_over ∙ ap (joined (lesser R) made.over) (sym (only_last (lesser R) (over_key over (k, c)))) ∙ f.least []
            ∙ ap (joined_by (lesser R) (over_key over)) seen;
      }
