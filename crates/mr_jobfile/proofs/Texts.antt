-- The texts of an array, tested one by one.
use Rattle.std.proofs.Common.{◌≡◌, ◌∙◌, ap, refl, ℕ, suc, Bool, true, false, ◌&&◌, List, [], ◌∷◌, length, Option, Some, None, option_map}
use Rattle.std.specs.List.{list_all}
use Rattle.toml.specs.Data.{Data, string, integer, float, boolean, datetime, array, table, Items, item, as_str}
use Rattle.toml.specs.View.{view, items_view}
use Rattle.toml.specs.declared.value.Value.{Value}
use Rattle.mr_jobfile.specs.Forms.{is_there, texts_of}

and_swapped : (a b c : Bool) → (a && (b && c)) ≡ (b && (a && c))
and_swapped true true c = refl
and_swapped true false c = refl
and_swapped false true c = refl
and_swapped false false c = refl

and_false : (a : Bool) → false ≡ (a && false)
and_false true = refl
and_false false = refl

-- all texts pass, and their number passes
abbrev pub pass : (ℕ → Bool) → (List ℕ → Bool) → List (List ℕ) → Bool
pass many p texts = many (length texts) && list_all p texts

one_more : (many : ℕ → Bool) (p : List ℕ → Bool) (s : List ℕ) (rest : Option (List (List ℕ)))
    → is_there (pass many p) (option_map (λ texts. s ∷ texts) rest) ≡ (p s && is_there (pass (λ n. many (suc n)) p) rest)
one_more many p s None = and_false (p s)
one_more many p s (Some texts) = and_swapped (many (suc (length texts))) (p s) (list_all p texts)

-- one more item before those of which this is known
one_more_item : (many : ℕ → Bool) (p : List ℕ → Bool) (d : Data) (ds : Items) (n : ℕ) (rest : Bool)
    → is_there (pass (λ m. many (suc m)) p) (texts_of ds) ≡ (many (suc n) && rest)
    → is_there (pass many p) (texts_of (item d ds)) ≡ (many (suc n) && (is_there p (as_str d) && rest))
one_more_item many p (string s) ds n rest known =
    one_more many p s (texts_of ds) ∙ (ap (λ b. p s && b) known ∙ and_swapped (p s) (many (suc n)) rest)
one_more_item many p (integer z) ds n rest known = and_false (many (suc n))
one_more_item many p (float x) ds n rest known = and_false (many (suc n))
one_more_item many p (boolean b) ds n rest known = and_false (many (suc n))
one_more_item many p (datetime t) ds n rest known = and_false (many (suc n))
one_more_item many p (array xs) ds n rest known = and_false (many (suc n))
one_more_item many p (table ms) ds n rest known = and_false (many (suc n))

-- the items are walked one by one
pub texts_pass : (many : ℕ → Bool) (p : List ℕ → Bool) (vs : List Value)
    → is_there (pass many p) (texts_of (items_view vs)) ≡ (many (length vs) && list_all (λ v. is_there p (as_str (view v))) vs)
texts_pass many p [] = refl
texts_pass many p (v ∷ vs) = one_more_item many p (view v) (items_view vs) (length vs) _ (texts_pass (λ m. many (suc m)) p vs)
