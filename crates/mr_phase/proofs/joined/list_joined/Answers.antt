use Rattle.std.proofs.Common.{◌≡◌, ℕ, ◌+◌, ◌<◌, List, [], ◌∷◌, ◌++◌, length, get_or, take, flat_map, sym, ap, ◌∙◌}
use Rattle.std.proofs.lemmas.List.{flat_map_more, take_all, take_more}
use Rattle.mr_hash.specs.Pairs.{pairs_of}
use Rattle.mr_phase.proofs.joined.list_joined.Goals as goal

one_list_more : {X Y : Type 0} (f : X → List Y) (xs : List X) (i : ℕ) (x : X) → i < length xs → x ≡ get_or xs i x
    → flat_map f (take (i + 1) xs) ≡ flat_map f (take i xs) ++ f x
one_list_more f xs i x h is =
    ap (flat_map f) (take_more xs i x h ∙ ap (λ y. take i xs ++ y ∷ []) (sym is)) ∙ sym (flat_map_more f [] (take i xs) x)

pub loop-list-preserved : goal.loop-list-preserved
loop-list-preserved g c =
    c.in_ok-lend_entries.ensures
    ∙ ap (λ l. l ++ pairs_of c.as_slice.result.now) c.loop-list.invariant
    ∙ ap (λ l. flat_map (λ list. pairs_of list.items) (take c.loop-list.list-index c.args.lists.now) ++ pairs_of l) c.as_slice.ensures.value
    ∙ sym (one_list_more (λ list. pairs_of list.items) c.args.lists.now c.loop-list.list-index c.list-item.result c.loop-list-test.true
    c.list-item.is)

pub returns : goal.returns
returns g c = c.loop-list.invariant
    ∙ ap (flat_map (λ list. pairs_of list.items)) (take_all c.loop-list.list-index c.args.lists.now c.loop-list-test.false)
