-- The elements of a line, field by field, and the first field that is none.
use Rattle.std.proofs.Common.{◌≡◌, ℕ, ℤ, List, [], ◌∷◌, ◌++◌, find, filter_map, is_none, if◌then◌else◌, Option, Some, None, refl, sym, ap}
use Rattle.std.proofs.Common.{ap₂, ◌∙◌, append_assoc}
use Rattle.std.specs.List.{cons_option}
use Rattle.std.specs.Option.{option_or, option_to_list}
use Rattle.std.proofs.lemmas.List.Elements.{filter_map-append}
use Rattle.std.proofs.lemmas.List.Folds.{find-append}
use Rattle.mr_items.specs.Grid.{element_of}
use Rattle.mr_items.specs.Lines.{is_field_byte}
use Rattle.mr_items.specs.Runs.{run_at}

-- at some places of a line
abbrev pub stray_at : List ℕ → List ℕ → Option ℕ
stray_at line places = find (λ field. is_none (element_of (run_at is_field_byte line field))) places

abbrev pub elements_at : List ℕ → List ℕ → List ℤ
elements_at line places = filter_map (λ field. element_of (run_at is_field_byte line field)) places

one_element : (o : Option ℤ) → cons_option o [] ≡ option_to_list o
one_element None = refl
one_element (Some z) = refl

module _ (line places next : List ℕ) (at : ℕ) (more : next ≡ places ++ at ∷ []) (element : Option ℤ)
    (is : element ≡ element_of (run_at is_field_byte line at)) where
  pub stray_more : (now stray : Option ℕ) → stray ≡ stray_at line places
      → now ≡ option_or stray (if is_none element then Some at else None) → now ≡ stray_at line next
  stray_more now stray so_far e =
      e ∙ ap₂ (λ s o. option_or s (if is_none o then Some at else None)) so_far is
      ∙ sym (find-append (λ field. is_none (element_of (run_at is_field_byte line field))) places (at ∷ []))
      ∙ ap (stray_at line) (sym more)

  pub elements_more : (before now old : List ℤ) → before ≡ old ++ elements_at line places → now ≡ before ++ option_to_list element
      → now ≡ old ++ elements_at line next
  elements_more before now old so_far e =
      e ∙ ap₂ (λ xs o. xs ++ option_to_list o) so_far is
      ∙ append_assoc old (elements_at line places) (option_to_list (element_of (run_at is_field_byte line at)))
      ∙ ap (λ xs. old ++ (elements_at line places ++ xs)) (sym (one_element (element_of (run_at is_field_byte line at))))
      ∙ ap (λ xs. old ++ xs) (sym (filter_map-append (λ field. element_of (run_at is_field_byte line field)) places (at ∷ []))
      ∙ ap (elements_at line) (sym more))
