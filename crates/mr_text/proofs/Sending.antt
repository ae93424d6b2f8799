-- Emissions that wait in a block, handed over little by little.
use Rattle.std.proofs.Common.{ℕ, List, [], ◌++◌, length, take, drop, refl, sym, ◌∙◌, ap, subst, append-nil, append_assoc}
use Rattle.std.proofs.lemmas.List.{take_at, take-append-drop}
use Rattle.mr_text.specs.Sent.{Sent, SentSome}

module _ {S E : Type 0} (stands : S → List E → Type 0) where
  -- nothing was handed over
  pub sent_none : (s : S) (all : List E) → Sent stands s s all all
  sent_none s all ds h = ([], subst (stands s) (sym (append-nil ds)) h, refl)

  module _ (old mid : S) (all left : List E) (so_far : Sent stands old mid all left) where
    -- more wait
    pub sent_more : (es : List E) → Sent stands old mid (all ++ es) (left ++ es)
    sent_more es ds h = let s = so_far ds h in (s.0, s.1, sym (append_assoc s.0 left es) ∙ ap (λ l. l ++ es) s.2)

    -- all that wait are handed over, or some of them
    pub sent_all : (new : S) → ((ds : List E) → stands mid ds → stands new (ds ++ left)) → Sent stands old new all []
    sent_all new handed ds h =
        let s = so_far ds h in
        (s.0 ++ left, subst (stands new) (append_assoc ds s.0 left) (handed (ds ++ s.0) s.1), append-nil (s.0 ++ left) ∙ s.2)

    pub sent_some : (new : S) → ((ds : List E) → stands mid ds → (n : ℕ) × stands new (ds ++ take n left)) → SentSome stands old new all
    sent_some new handed ds h =
        let s = so_far ds h in
        let t = handed (ds ++ s.0) s.1 in (
          s.0 ++ take t.0 left,
          drop t.0 left,
          subst (stands new) (append_assoc ds s.0 (take t.0 left)) t.1,
          append_assoc s.0 (take t.0 left) (drop t.0 left) ∙ ap (λ l. s.0 ++ l) (take-append-drop t.0 left) ∙ s.2,
        )

    pub sent_before : (es : List E) → SentSome stands old mid (all ++ es)
    sent_before es ds h = let s = so_far ds h in (s.0, left ++ es, s.1, sym (append_assoc s.0 left es) ∙ ap (λ l. l ++ es) s.2)

    -- one step after another
    pub sent_next : (new : S) (es rest : List E) → Sent stands mid new (left ++ es) rest → Sent stands old new (all ++ es) rest
    sent_next new es rest next ds h =
        let s = so_far ds h in
        let t = next (ds ++ s.0) s.1 in (
          s.0 ++ t.0,
          subst (stands new) (append_assoc ds s.0 t.0) t.1,
          append_assoc s.0 t.0 rest ∙ ap (λ l. s.0 ++ l) t.2 ∙ sym (append_assoc s.0 left es) ∙ ap (λ l. l ++ es) s.2,
        )

    pub some_next : (new : S) (es : List E) → SentSome stands mid new (left ++ es) → SentSome stands old new (all ++ es)
    some_next new es next ds h =
        let s = so_far ds h in
        let t = next (ds ++ s.0) s.1 in (
          s.0 ++ t.0,
          t.1,
          subst (stands new) (append_assoc ds s.0 t.0) t.2,
          append_assoc s.0 t.0 t.1 ∙ ap (λ l. s.0 ++ l) t.3 ∙ sym (append_assoc s.0 left es) ∙ ap (λ l. l ++ es) s.2,
        )

  pub some_more : (old new : S) (all es : List E) → SentSome stands old new all → SentSome stands old new (all ++ es)
  some_more old new all es some ds h = let s = some ds h in (s.0, s.1 ++ es, s.2, sym (append_assoc s.0 s.1 es) ∙ ap (λ l. l ++ es) s.3)

  -- all of it is what the local stands for, and some of it a front
  pub all_stands : (old new : S) (all : List E) → Sent stands old new all [] → (ds : List E) → stands old ds → stands new (ds ++ all)
  all_stands old new all sent ds h = let s = sent ds h in subst (λ l. stands new (ds ++ l)) (sym (append-nil s.0) ∙ s.2) s.1

  pub some_stands : (old new : S) (all : List E) → SentSome stands old new all → (ds : List E) → stands old ds
      → (n : ℕ) × stands new (ds ++ take n all)
  some_stands old new all some ds h =
      let s = some ds h in
      (length s.0, subst (λ l. stands new (ds ++ l)) (sym (ap (take (length s.0)) (sym s.3) ∙ take_at s.0 s.1 (length s.0) refl)) s.2)

  pub none_stands : (s : S) (all : List E) (ds : List E) → stands s ds → (n : ℕ) × stands s (ds ++ take n all)
  none_stands s all ds h = (0, subst (stands s) (sym (append-nil ds)) h)
