-- What the workers of a map phase hold, from their locals to the hands of all.
use Rattle.std.proofs.Common.{◌≡◌, ℕ, ◌+◌, ◌-◌, ◌<◌, Bool, false, List, [], ◌∷◌, ◌++◌, length, map, flat_map, reverse, slice_index_or}
use Rattle.std.proofs.Common.{refl, sym, ap, subst, ◌∙◌, arith, append_assoc, append-nil, Ok, Err, Some, slice_get}
use Rattle.std.proofs.lemmas.Option.{slice_get-get_or}
use Rattle.std.specs.Prelude.{All, IfOk}
use Rattle.std.specs.declared.result.Result.{Result}
use Rattle.std.proofs.lemmas.Grind.{flat_map-append}
use Rattle.std.proofs.lemmas.List.{map-append, length-map, get_or-map, reverse-append, reverse-reverse, flat_map_more}
use Rattle.std.proofs.lemmas.List.Elements.{All-nil, All-push, All-append, All-head, All-tail}
use Rattle.std.proofs.lemmas.List.Sorted.{All-permutation, IsPermutation-reverse, IsPermutation-trans}
use Rattle.std.specs.List.Sorted.{IsPermutation}
use Rattle.mr_base.specs.Spare.{Spared}
use Rattle.mr_phase.specs.declared.hands.Hand.{Hand}
use Rattle.mr_phase.specs.declared.hands.Held.{Held}
use Rattle.mr_phase.specs.declared.map.Work.{Work}
use Rattle.mr_base.specs.Tasks.{AreAll, AreUnused, HaveEnded}
use Rattle.mr_phase.specs.Held.{HoldsFor, IsOfOrigin, hands_held}
use Rattle.mr_phase.specs.Partition.{itself}
use Rattle.mr_phase.specs.Works.{AreDone, AreFrom, AreFresh, AreOf}
use Rattle.mr_phase.proofs.Sharing.{itself_all}
use Rattle.mr_phase.proofs.Sorts.{Ends, ends, first_of_list, there, within}

slice_there : {X : Type 0} (xs : List X) (i : ℕ) (d : X) → i < length xs → slice_get xs i ≡ Some (slice_index_or xs i d)
slice_there xs i d lt = slice_get-get_or xs i d lt

abbrev pub held_of : {L : Type 0} → Spared (Hand L) → Spared ℕ → L → Held L
held_of hands tasks local = record { hands = hands; tasks = tasks; local = local }

-- one task more, in the local
pub one_more : {L E : Type 0} (spills : Bool) (stands : L → List E → Type 0) (emits : ℕ → List E) (old new : Held L) (tasks : List ℕ)
    (t : ℕ) → new.hands.items ≡ old.hands.items → new.tasks.items ≡ old.tasks.items ++ t ∷ []
    → ((es : List E) → stands old.local es → stands new.local (es ++ emits t))
    → HoldsFor spills stands emits old tasks → HoldsFor spills stands emits new (tasks ++ t ∷ [])
one_more {L} {E} spills stands emits old new tasks t hands more local was = record {
  given = subst (λ hs. All (λ (h : Hand L). stands h.local (flat_map emits h.tasks.items)) hs) (sym hands) was.given;
  since = subst (λ ts. stands new.local (flat_map emits ts)) (sym more)
      (subst (stands new.local) (flat_map_more emits [] old.tasks.items t) (local (flat_map emits old.tasks.items) was.since));
  together = ap (λ hs. flat_map (λ (h : Hand L). h.tasks.items) hs ++ new.tasks.items) hands
      ∙ ap (λ ts. flat_map (λ (h : Hand L). h.tasks.items) old.hands.items ++ ts) more
      ∙ sym (append_assoc (flat_map (λ (h : Hand L). h.tasks.items) old.hands.items) old.tasks.items (t ∷ []))
      ∙ ap (λ ts. ts ++ t ∷ []) was.together;
  alone = λ never. hands ∙ was.alone never;
}

-- what follows of the value, if there is one
pub ok_so : {T E : Type 0} (P Q : T → Type 0) → ((x : T) → P x → Q x) → (r : Result T E) → IfOk r P → IfOk r Q
ok_so P Q so (Ok x) p = so x p
ok_so P Q so (Err e) p = tt

map_turned : {X Y : Type 0} (f : X → Y) (xs : List X) → map f (reverse xs) ≡ reverse (map f xs)
map_turned f [] = refl
map_turned f (x ∷ xs) =
    ap (map f) (reverse-append (x ∷ []) xs) ∙ map-append f (reverse xs) (x ∷ []) ∙ ap (λ l. l ++ f x ∷ []) (map_turned f xs)
    ∙ sym (reverse-append (f x ∷ []) (map f xs))

abbrev local_of : {L : Type 0} → Held L → L
local_of h = h.local

-- a local that is held
pub held_more : {L : Type 0} (all now left : List L) (l : L) (helds helds' : List (Held L)) (h : Held L)
    → map (λ h. h.local) helds ++ reverse now ≡ reverse all → now ≡ left ++ l ∷ [] → helds' ≡ helds ++ h ∷ [] → h.local ≡ l
    → map (λ h. h.local) helds' ++ reverse left ≡ reverse all
held_more {L} all now left l helds helds' h was is is' here =
    ap (λ hs. map local_of hs ++ reverse left) is' ∙ ap (λ ls. ls ++ reverse left) (map-append local_of helds (h ∷ []))
    ∙ append_assoc (map local_of helds) (h.local ∷ []) (reverse left)
    ∙ ap (λ x. map local_of helds ++ (x ∷ reverse left)) here
    ∙ ap (λ ls. map local_of helds ++ ls) (sym (reverse-append left (l ∷ [])))
    ∙ ap (λ ls. map local_of helds ++ reverse ls) (sym is) ∙ was

pub held_all : {L : Type 0} (all left : List L) (helds turned : List (Held L)) → map (λ h. h.local) helds ++ reverse left ≡ reverse all
    → left ≡ [] → turned ≡ reverse helds → map (λ h. h.local) turned ≡ all
held_all all left helds turned was none is =
    ap (map local_of) is ∙ map_turned local_of helds
    ∙ ap reverse (sym (append-nil (map local_of helds)) ∙ ap (λ ls. map local_of helds ++ reverse ls) (sym none) ∙ was)
    ∙ reverse-reverse all

pub all_turned : {X : Type 0} (P : X → Type 0) (xs turned : List X) → turned ≡ reverse xs → All P xs → All P turned
all_turned P xs turned is all = subst (All P) (sym is) (All-permutation P xs (reverse xs) (IsPermutation-reverse xs) all)

abbrev pub Gone : {L : Type 0} → List (Hand (Held L)) → List (Hand (Held L)) → List (Hand L) → Type 0
Gone {L} all left hands =
    hands ++ reverse (flat_map (λ w. hands_held w.local) left) ≡ reverse (flat_map (λ w. hands_held w.local) all)

-- the last worker's hands, from the last one
pub goes : {L : Type 0} (all now left : List (Hand (Held L))) (w : Hand (Held L)) (hands one more : List (Hand L)) → Gone all now hands
    → now ≡ left ++ w ∷ [] → one ≡ hands ++ record { tasks = w.local.tasks; local = w.local.local } ∷ []
    → more ≡ one ++ reverse w.local.hands.items → Gone all left more
goes {L} all now left w hands one more was is is_one is_more =
    let f : Hand (Held L) → List (Hand L) = λ w. hands_held w.local in
    let last : Hand L = record { tasks = w.local.tasks; local = w.local.local } in
    let given : List (Hand L) = w.local.hands.items in
    let rest : List (Hand L) = reverse (flat_map f left) in
    let turn : reverse (flat_map f now) ≡ (last ∷ reverse given) ++ rest =
    ap (λ ws. reverse (flat_map f ws)) is ∙ ap reverse (sym (flat_map_more f [] left w))
    ∙ reverse-append (flat_map f left) (f w) ∙ ap (λ hs. hs ++ rest) (reverse-append given (last ∷ [])) in
    ap (λ hs. hs ++ rest) (is_more ∙ ap (λ hs. hs ++ reverse given) is_one ∙ append_assoc hands (last ∷ []) (reverse given))
    ∙ append_assoc hands (last ∷ reverse given) rest ∙ ap (λ hs. hands ++ hs) (sym turn) ∙ was

pub gone : {L : Type 0} (all left : List (Hand (Held L))) (hands turned : List (Hand L)) → Gone all left hands → left ≡ []
    → turned ≡ reverse hands → turned ≡ flat_map (λ w. hands_held w.local) all
gone {L} all left hands turned was none is =
    let f : Hand (Held L) → List (Hand L) = λ w. hands_held w.local in
    is ∙ ap reverse (sym (append-nil hands) ∙ ap (λ ws. hands ++ reverse (flat_map f ws)) (sym none) ∙ was)
    ∙ reverse-reverse (flat_map f all)

-- a worker that holds no task more
pub new_more : {L : Type 0} (helds helds' : List (Held L)) (h : Held L) → helds' ≡ helds ++ h ∷ [] → h.hands.items ≡ [] → h.tasks.items ≡ []
    → All (λ held. (held.hands.items ≡ []) × (held.tasks.items ≡ [])) helds
    → All (λ held. (held.hands.items ≡ []) × (held.tasks.items ≡ [])) helds'
new_more {L} helds helds' h is hands tasks all =
    let New : Held L → Type 0 = λ held. (held.hands.items ≡ []) × (held.tasks.items ≡ []) in
    subst (All New) (sym is) (All-push New helds h all (hands, tasks))

module _ {L E : Type 0} (spills : Bool) (stands : L → List E → Type 0) (emits : ℕ → List E) where
  -- a worker that holds no task
  pub holds_none : (h : Held L) → h.hands.items ≡ [] → h.tasks.items ≡ [] → stands h.local [] → HoldsFor spills stands emits h []
  holds_none h hands tasks new = record {
    given = subst (λ hs. All (λ (y : Hand L). stands y.local (flat_map emits y.tasks.items)) hs) (sym hands)
        (All-nil (λ (y : Hand L). stands y.local (flat_map emits y.tasks.items)));
    since = subst (λ ts. stands h.local (flat_map emits ts)) (sym tasks) new;
    together = ap (λ hs. flat_map (λ (y : Hand L). y.tasks.items) hs ++ h.tasks.items) hands ∙ tasks;
    alone = λ never. hands;
  }

  -- the works are fresh
  pub fresh_helds : {P : Type 0} (is_of : P → Type 0) (number : P → ℕ) (given : P → List ℕ) (ended : P → Bool) (count : ℕ)
      (passes : List P) (locals : List L) (helds : List (Held L)) (works : List (Work P (Held L)))
      → AreAll count is_of number passes → AreUnused given ended passes → length locals ≡ length passes
      → All (λ local. stands local []) locals → map (λ held. held.local) helds ≡ locals
      → All (λ held. (held.hands.items ≡ []) × (held.tasks.items ≡ [])) helds
      → AreOf passes helds works → AreFresh is_of number given (HoldsFor spills stands emits) works
  fresh_helds {P} is_of number given ended count passes locals helds works all unused long new are none of i d lt =
      let w : Work P (Held L) = slice_index_or works i d in
      let o = of.1 i d lt in
      let j : ℕ = length passes - (i + 1) in
      let n0 = all.0 in let n1 = of.0 in
      let below : j < length passes = omega (arith, lt, n1) in
      let as_many : length helds ≡ length passes = sym (length-map helds local_of) ∙ ap length are ∙ long in
      let inside : j < length helds = omega (arith, below, as_many) in
      let a = all.1 j w.pass (omega (arith, below, n0)) in
      let u = unused j w.pass below in
      let h : Held L = slice_index_or helds j w.local in
      let e = none j w.local inside in
      let s : stands h.local [] = subst (λ l. stands l []) (get_or-map local_of helds j w.local w.local.local inside)
      (subst (λ ls. stands (slice_index_or ls j w.local.local) []) (sym are)
      (new j w.local.local (omega (arith, below, long)))) in (
        subst is_of (sym o.1) a.0,
        o.0 ∙ sym (ap number o.1 ∙ a.1),
        ap given o.1 ∙ u.0,
        o.3,
        subst (λ x. HoldsFor spills stands emits x []) (sym o.2) (holds_none h e.0 e.1 s),
        o.4,
      )

  abbrev Share : Type 0
  Share = Hand (Held L)

  abbrev Holds : Share → Type 0
  Holds w = HoldsFor spills stands emits w.local (flat_map itself w.tasks.items)

  abbrev hands_in : Share → List (Hand L)
  hands_in w = hands_held w.local

  abbrev tasks_of : {X : Type 0} → Hand X → List ℕ
  tasks_of h = h.tasks.items

  abbrev Stands : Hand L → Type 0
  Stands h = stands h.local (flat_map emits h.tasks.items)

  -- the tasks of a worker's hands are those that it took
  same_tasks : (w : Share) → Holds w → flat_map tasks_of (hands_in w) ≡ tasks_of w
  same_tasks w h =
      sym (flat_map_more tasks_of [] w.local.hands.items (record { tasks = w.local.tasks; local = w.local.local }))
      ∙ h.together ∙ itself_all w.tasks.items

  pub tasks_held : (ws : List Share) → All Holds ws → flat_map (λ h. h.tasks.items) (flat_map (λ w. hands_held w.local) ws)
      ≡ flat_map (λ w. w.tasks.items) ws
  tasks_held [] all = refl
  tasks_held (w ∷ ws) all =
      flat_map-append tasks_of (hands_in w) (flat_map hands_in ws)
      ∙ ap (λ ts. ts ++ flat_map tasks_of (flat_map hands_in ws)) (same_tasks w (All-head Holds w ws all))
      ∙ ap (λ ts. tasks_of w ++ ts) (tasks_held ws (All-tail Holds w ws all))

  pub stand_held : (ws : List Share) → All Holds ws
      → All (λ h. stands h.local (flat_map emits h.tasks.items)) (flat_map (λ w. hands_held w.local) ws)
  stand_held [] all = All-nil Stands
  stand_held (w ∷ ws) all =
      let h = All-head Holds w ws all in
      All-append Stands (hands_in w) (flat_map hands_in ws)
      (All-push Stands w.local.hands.items (record { tasks = w.local.tasks; local = w.local.local }) h.given h.since)
      (stand_held ws (All-tail Holds w ws all))

  abbrev last_of : Share → Hand L
  last_of w = record { tasks = w.local.tasks; local = w.local.local }

  -- without spills each worker has one hand
  pub one_each : spills ≡ false → (ws : List Share) → All Holds ws
      → flat_map (λ w. hands_held w.local) ws ≡ map (λ w. record { tasks = w.local.tasks; local = w.local.local }) ws
  one_each never [] all = refl
  one_each never (w ∷ ws) all =
      ap (λ hs. (hs ++ last_of w ∷ []) ++ flat_map hands_in ws) ((All-head Holds w ws all).alone never)
      ∙ ap (λ hs. last_of w ∷ hs) (one_each never ws (All-tail Holds w ws all))

  -- a map phase of workers that hold these, from first to last
  module _ {P : Type 0} (is_of : P → Type 0) (number : P → ℕ) (given : P → List ℕ) (ended : P → Bool) (same_origin : L → L → Type 0)
      (count : ℕ) (passes : List P) (locals : List L) (helds : List (Held L)) (befores afters : List (Work P (Held L))) (again : List P)
      (workers : List Share) (all : AreAll count is_of number passes) (of : AreOf passes helds befores)
      (len : length afters ≡ length befores)
      (done : AreDone is_of number given ended (IsOfOrigin same_origin) (HoldsFor spills stands emits) itself befores afters)
      (from : AreFrom afters again workers) (long : length locals ≡ length passes) (are : map (λ held. held.local) helds ≡ locals) where
    whole : Ends is_of number given ended (IsOfOrigin same_origin) (HoldsFor spills stands emits) itself count passes helds befores afters
        again workers all of len done from
    whole = ends is_of number given ended (IsOfOrigin same_origin) (HoldsFor spills stands emits) itself count passes helds befores afters
        again workers all of len done from (sym (length-map helds local_of) ∙ ap length are ∙ long)

    pub closed : AreAll count is_of number again × HaveEnded ended again
    closed = whole.closed

    module _ (hands : List (Hand L)) (is : hands ≡ flat_map (λ w. hands_held w.local) workers) where
      pub count_held : spills ≡ false → length hands ≡ count
      count_held never = ap length (is ∙ one_each never workers whole.stands_each) ∙ length-map workers last_of ∙ whole.count_is

      pub once_held : (tasks : List ℕ) → IsPermutation tasks (flat_map given again) → IsPermutation tasks (flat_map (λ h. h.tasks.items) hands)
      once_held tasks once = IsPermutation-trans tasks (flat_map given again) (flat_map tasks_of hands) once
          (subst (IsPermutation (flat_map given again)) (sym (ap (flat_map tasks_of) is ∙ tasks_held workers whole.stands_each)) whole.tasks)

      pub all_stand : All (λ h. stands h.local (flat_map emits h.tasks.items)) hands
      all_stand = subst (All Stands) (sym is) (stand_held workers whole.stands_each)

      -- without spills the i-th hand comes from the i-th local
      pub origin_held : spills ≡ false → (i : ℕ) (l : L) (h : Hand L) → slice_get locals i ≡ Some l → slice_get hands i ≡ Some h
          → same_origin l h.local
      origin_held never i l h at at' =
          let alone : hands ≡ map last_of workers = is ∙ one_each never workers whole.stands_each in
          let lt : i < length workers = omega (arith, within hands i h at', ap length alone, length-map workers last_of) in
          let lt' : i < length helds = omega (arith, within locals i l at, ap length are, length-map helds local_of) in
          let w : Share = slice_index_or workers i (first_of_list workers (omega (arith, lt))) in
          let b : Held L = slice_index_or helds i (first_of_list helds (omega (arith, lt'))) in
          let hand : h ≡ last_of w = there hands i h at' ∙ ap (λ hs. slice_index_or hs i h) alone
          ∙ get_or-map last_of workers i (first_of_list workers (omega (arith, lt))) h lt in
          let local : l ≡ local_of b = there locals i l at ∙ ap (λ ls. slice_index_or ls i l) (sym are)
          ∙ get_or-map local_of helds i (first_of_list helds (omega (arith, lt'))) l lt' in
          subst (λ x. same_origin x h.local) (sym local)
          (subst (λ (x : Hand L). same_origin (local_of b) x.local) (sym hand)
          (whole.origin i b w (slice_there helds i (first_of_list helds (omega (arith, lt'))) lt')
          (slice_there workers i (first_of_list workers (omega (arith, lt))) lt)))
