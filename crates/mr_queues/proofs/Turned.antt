-- Passes that are taken from the end of a turned list come in their order.
use Rattle.std.proofs.Common.{◌≡◌, ◌+◌, List, [], ◌∷◌, ◌++◌, length, map, reverse, Option, sym, ap, ◌∙◌, append_assoc, length-append}
use Rattle.std.specs.Prelude.{filter_map}
use Rattle.std.specs.List.{cons_option}
use Rattle.std.proofs.lemmas.List.{reverse-append, reverse-reverse}

-- the last of a list is the first of the turned one
pub turned_last : {X : Type 0} (before after : List X) (x : X) → before ≡ after ++ x ∷ [] → reverse before ≡ x ∷ reverse after
turned_last before after x is = ap reverse is ∙ reverse-append after (x ∷ [])

pub one_longer : {X : Type 0} (before after : List X) (x : X) → before ≡ after ++ x ∷ [] → length before ≡ length after + 1
one_longer before after x is = ap length is ∙ length-append after (x ∷ [])

module _ {X Y : Type 0} (h : X → Option Y) where
  -- what the items gave, and behind it what those that are left give from the last on
  abbrev pub given_so_far : List Y → List X → List Y
  given_so_far done left = done ++ filter_map h (reverse left)

  pub given_first : (turned all : List X) → turned ≡ reverse all → filter_map h (reverse turned) ≡ filter_map h all
  given_first turned all is = ap (λ t. filter_map h (reverse t)) is ∙ ap (filter_map h) (reverse-reverse all)

  pub given_next : (done : List Y) (before after : List X) (x : X) → before ≡ after ++ x ∷ []
      → given_so_far done before ≡ done ++ cons_option (h x) (filter_map h (reverse after))
  given_next done before after x is = ap (λ t. done ++ filter_map h t) (turned_last before after x is)

-- the same where each item gives one
module _ {X Y : Type 0} (f : X → Y) where
  abbrev pub mapped_so_far : List Y → List X → List Y
  mapped_so_far done left = done ++ map f (reverse left)

  pub mapped_first : (turned all : List X) → turned ≡ reverse all → map f (reverse turned) ≡ map f all
  mapped_first turned all is = ap (λ t. map f (reverse t)) is ∙ ap (map f) (reverse-reverse all)

  pub mapped_next : (done more : List Y) (before after : List X) (x : X) → before ≡ after ++ x ∷ [] → more ≡ done ++ f x ∷ []
      → mapped_so_far more after ≡ mapped_so_far done before
  mapped_next done more before after x is pushed =
      ap (λ m. m ++ map f (reverse after)) pushed ∙ append_assoc done (f x ∷ []) (map f (reverse after))
      ∙ ap (λ t. done ++ map f t) (sym (turned_last before after x is))
