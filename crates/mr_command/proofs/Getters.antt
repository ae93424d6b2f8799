-- What the getters give, as rows.
use Rattle.std.proofs.Common.{Bool, refl, true, false, cond, List, [], ◌∷◌, ◌≡◌, ◌∙◌, Some, None, Option, option_map, map, sym, ap}
use Rattle.std.proofs.Common.{bytes_eq}
use Rattle.std.specs.Prelude.{find, option_and_then, slice_get}
use Rattle.std.specs.Borrow.{Bor}
use Rattle.clap.specs.declared.parser.matches.Found.{Found}
use Rattle.clap.specs.declared.parser.matches.MatchedArg.{MatchedArg}
use Rattle.clap.specs.Matches.{first_value, matched_of, raw_values}
use Rattle.clap.specs.Facts.{Entry}
use Rattle.clap.specs.Walk.{Row, Text, row_of, rows_of, first_of, all_of}

step : (e : Entry) (b : Bool) (rs : Option Row) (xs : Option Entry) → rs ≡ option_map row_of xs
    → cond b (Some (row_of e)) rs ≡ option_map row_of (cond b (Some e) xs)
step e true rs xs h = refl
step e false rs xs h = h

find_row : (id : Text) (es : List Entry)
    → find (λ (r : Row). bytes_eq r.id id) (map row_of es) ≡ option_map row_of (find (λ (e : Entry). bytes_eq e.0.now id) es)
find_row id [] = refl
find_row id (e ∷ es) = step e (bytes_eq e.0.now id) _ _ (find_row id es)

first_text : (vs : List (Bor Text)) → slice_get (map (λ (s : Bor Text). s.now) vs) 0 ≡ option_map (λ s. s.now) (slice_get vs 0)
first_text [] = refl
first_text (v ∷ vs) = refl

first_in : (found : Option Entry)
    → option_and_then (λ (r : Row). slice_get r.values 0) (option_map row_of found) ≡ option_and_then
    (λ (a : MatchedArg). option_map (λ s. s.now) (slice_get a.vals.items 0)) (option_map (λ (e : Entry). e.1) found)
first_in None = refl
first_in (Some e) = first_text e.1.vals.items

pub first_value_is : (f : Found) (id : Text) → first_value f id ≡ first_of id (rows_of f)
first_value_is f id =
    sym (ap (option_and_then (λ (r : Row). slice_get r.values 0)) (find_row id f.entries.items)
    ∙ first_in (find (λ (e : Entry). bytes_eq e.0.now id) f.entries.items))

all_in : (found : Option Entry)
    → option_map (λ (r : Row). r.values) (option_map row_of found) ≡ option_map raw_values (option_map (λ (e : Entry). e.1) found)
all_in None = refl
all_in (Some e) = refl

pub raw_values_are : (f : Found) (id : Text) → option_map raw_values (matched_of f id) ≡ all_of id (rows_of f)
raw_values_are f id =
    sym (ap (option_map (λ (r : Row). r.values)) (find_row id f.entries.items)
    ∙ all_in (find (λ (e : Entry). bytes_eq e.0.now id) f.entries.items))
