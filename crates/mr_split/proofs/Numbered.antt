-- What the parts of a list give, part by part.
use Rattle.std.proofs.Common.{◌≡◌, List, length, get_or, refl, sym, ap, ◌∙◌}
use Rattle.std.specs.Prelude.{flat_map}
use Rattle.std.specs.List.{range_with_len}
use Rattle.std.proofs.lemmas.List.FromFn.{fill_by_all}
use Rattle.std.proofs.lemmas.List.Folds.{flat_map-map}

pub flat_map-numbered : {X E : Type 0} (f : X → List E) (xs : List X) (d : X)
    → flat_map (λ t. f (get_or xs t d)) (range_with_len 0 (length xs)) ≡ flat_map f xs
flat_map-numbered f xs d = sym (flat_map-map f (λ t. get_or xs t d) (range_with_len 0 (length xs)))
    ∙ ap (flat_map f) (sym (fill_by_all (λ t. get_or xs t d) xs (length xs) d refl (λ k below. refl)))
