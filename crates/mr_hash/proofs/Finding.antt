-- Entries, and how the index finds them.
use Rattle.std.proofs.Common.{◌≡◌, ◌≢◌, ℕ, ◌+◌, ◌<◌, ◌≤◌, Bool, cond, List, [], ◌∷◌, ◌++◌, length, get_or, set, map, take, Some, None}
use Rattle.std.proofs.Common.{is_some, Result, Ok, Err, OnOk, inl, inr, refl, sym, ap, subst, ◌∙◌, arith}
use Rattle.std.specs.List.{IsDistinct, list_any}
use Rattle.std.proofs.lemmas.Cmp.{eq_by_cmp_equiv}
use Rattle.std.specs.FinMap.Entries.{is_some-find}
use Rattle.std.proofs.lemmas.List.{map-set, map-append, length-map, get_or-map, get_or_read_under, take_more}
use Rattle.std.proofs.Math.Seq.{map-set_same}
use Rattle.std.proofs.lemmas.Map.Keys.{IsDistinct-push}
use Rattle.std.proofs.lemmas.Bool.{cases_lt}
use Rattle.std.specs.declared.cmp.Ordering.{Ordering}
use Rattle.std.specs.declared.cmp.Ordering.TheVariants.{Equal}
use Rattle.std.specs.Ordering.{eq_by_cmp}
use Rattle.std.specs.Cmp.{IsTotalOrder}
use Rattle.std.specs.FinMap.{IsAntisymmetric, find}
use Rattle.mr_defs.specs.Commutative.{joined}
use Rattle.mr_container.proofs.Entries.{find_none, find_there, find_changed, find_pushed}
use Rattle.mr_hash.specs.declared.entry.Entry.{Entry}
use Rattle.mr_hash.specs.Pairs.{pairs_of, keys_of}
use Rattle.mr_hash.specs.Slots.{slot_of, word_of, Indexed, IsFree}
use Rattle.mr_hash.proofs.Indexing.{same_or, word_some, indexed_more}

module _ {K C : Type 0} where
  pub keys_of_pairs : (es : List (Entry K C)) → map (λ p. p.0) (pairs_of es) ≡ keys_of es
  keys_of_pairs [] = refl
  keys_of_pairs (e ∷ es) = ap (λ l. e.key ∷ l) (keys_of_pairs es)

  -- what is read at a place of the entries
  pub pair_there : (es : List (Entry K C)) (i : ℕ) (d : K × C) (x : Entry K C) → i < length es
      → get_or (pairs_of es) i d ≡ ((get_or es i x).key, (get_or es i x).cell)
  pair_there es i d x l = get_or-map (λ e. (e.key, e.cell)) es i x d l

  -- as many numbers as entries, where one is read off each key
  pub length-told : (told : K → ℕ) (es : List (Entry K C)) → length (map told (keys_of es)) ≡ length es
  length-told told es = length-map (keys_of es) told ∙ length-map es (λ e. e.key)

  pub told_there : (told : K → ℕ) (es : List (Entry K C)) (i : ℕ) (x : Entry K C) → i < length es
      → get_or (map told (keys_of es)) i 0 ≡ told (get_or es i x).key
  told_there told es i x l =
      get_or-map told (keys_of es) i x.key 0 (subst (λ n. i < n) (sym (length-map es (λ e. e.key))) l)
      ∙ ap told (get_or-map (λ e. e.key) es i x x.key l)

-- what a slot holds
pub content : (shift : ℕ) (index : List ℕ) (size code distance slot value : ℕ) → slot ≡ slot_of size shift code distance
    → size ≡ length index → slot < size → value ≡ get_or index slot value
    → get_or index (slot_of (length index) shift code distance) 0 ≡ value
content shift index size code distance slot value is long within read =
    ap (λ s. get_or index s 0) (sym (is ∙ ap (λ n. slot_of n shift code distance) long))
    ∙ sym (get_or_read_under index slot size value 0 read within long)

-- a slot with nothing holds no word
no_word : (v size code place : ℕ) → v ≡ 0 → v ≡ word_of size code place → ⊥
no_word v size code place none e = omega (arith, none, e, word_some size code place)

module _ {K C : Type 0} {R : K → K → Ordering} (one : IsAntisymmetric R) (code_of : K → ℕ) (es : List (Entry K C)) (key : K) (code : ℕ)
    (known : code ≡ code_of key) where
  -- the code of an entry of this key
  key_code : (i : ℕ) (x : Entry K C) → i < length es → R key (get_or es i x).key ≡ Equal → get_or (map code_of (keys_of es)) i 0 ≡ code
  key_code i x l t = told_there code_of es i x l ∙ ap code_of (sym (one _ _ t)) ∙ sym known

  module _ (size shift : ℕ) (index : List ℕ) (distance : ℕ)
      (not_before : (nearer place : ℕ) → nearer < distance → get_or index (slot_of size shift code nearer) 0 ≡ word_of size code place
      → place < length es → (e : Entry K C) → R key (get_or es place e).key ≡ Equal → ⊥) where
    not_nearer : (i : ℕ) (x : Entry K C) → i < length es → R key (get_or es i x).key ≡ Equal → (n : ℕ) → n < distance
        → get_or index (slot_of size shift (get_or (map code_of (keys_of es)) i 0) n) 0
        ≢ word_of size (get_or (map code_of (keys_of es)) i 0) i
    not_nearer i x l t n p =
        subst (λ c. get_or index (slot_of size shift c n) 0 ≢ word_of size c i) (sym (key_code i x l t)) (λ e. not_before n i p e l x t)

    -- an empty slot, or none left: there is no entry of this key
    pub absent : Indexed size shift index (map code_of (keys_of es)) → distance ≤ size
        → (distance < size → get_or index (slot_of size shift code distance) 0 ≡ 0) → find R key (pairs_of es) ≡ None
    absent found far empty = find_none R key (pairs_of es) (λ i l d t.
        let x : Entry K C = record { cell = d.1; key = d.0 } in
        let p : i < length es = subst (λ n. i < n) (length-map es (λ e. (e.key, e.cell))) l in
        let same : R key (get_or es i x).key ≡ Equal = ap (λ q. R key q.0) (sym (pair_there es i d x p)) ∙ t in
        let place : i < length (map code_of (keys_of es)) = subst (λ n. i < n) (sym (length-told code_of es)) p in
        let coded = key_code i x p same in
        elim (cases_lt distance size) [
          | inl short ↦ found.before i distance place short
              (λ n q e. same_or n distance
              (λ is. no_word _ size (get_or (map code_of (keys_of es)) i 0) i (empty short)
              (ap (λ s. get_or index (slot_of size shift code s) 0) (sym is)
              ∙ ap (λ c. get_or index (slot_of size shift c n) 0) (sym coded) ∙ e))
              (λ other. not_nearer i x p same n (omega (arith, q, other)) e))
              (ap (λ c. get_or index (slot_of size shift c distance) 0) coded ∙ empty short)
          | inr long ↦ found.there i place (λ n q. not_nearer i x p same n (omega (arith, q, long, far)))
        ])

    -- a slot that leads to no entry of this key
    pub passed : (value at : ℕ) → get_or index (slot_of size shift code distance) 0 ≡ value
        → ((place : ℕ) → value ≡ word_of size code place → at ≡ place)
        → (at < length es → (e : Entry K C) → R key (get_or es at e).key ≡ Equal → ⊥)
        → (nearer place : ℕ) → nearer < distance + 1 → get_or index (slot_of size shift code nearer) 0 ≡ word_of size code place
        → place < length es → (e : Entry K C) → R key (get_or es place e).key ≡ Equal → ⊥
    passed value at held tells differs nearer place p e l d t = same_or nearer distance
        (λ is.
        let here : at ≡ place = tells place (sym held ∙ ap (λ n. get_or index (slot_of size shift code n) 0) (sym is) ∙ e) in
        differs (subst (λ n. n < length es) (sym here) l) d (ap (λ n. R key (get_or es n d).key) here ∙ t))
        (λ other. not_before nearer place (omega (arith, p, other)) e l d t)

module _ {K C : Type 0} {R : K → K → Ordering} (o : IsTotalOrder R) (one : IsAntisymmetric R) (entries : List (Entry K C)) (k : K) where
  -- the entry of a key
  pub entry_found : (i : ℕ) (e : Entry K C) → IsDistinct (eq_by_cmp R) (keys_of entries) → i < length entries → e ≡ get_or entries i e
      → R k e.key ≡ Equal → find R k (pairs_of entries) ≡ Some e.cell
  entry_found i e h l is t =
      find_there o one (pairs_of entries) k i (e.key, e.cell) (subst (IsDistinct (eq_by_cmp R)) (sym (keys_of_pairs entries)) h)
      (subst (λ n. i < n) (sym (length-map entries (λ x. (x.key, x.cell)))) l)
      (ap (λ x. (x.key, x.cell)) is ∙ sym (pair_there entries i (e.key, e.cell) e l)) t

module _ {K C : Type 0} {R : K → K → Ordering} (o : IsTotalOrder R) (one : IsAntisymmetric R) (merged : C → C → C)
    (entries : List (Entry K C)) (k : K) (unit new : C) where
  -- a value more in the cell of an entry
  pub cell_changed : (i : ℕ) (e : Entry K C) → IsDistinct (eq_by_cmp R) (keys_of entries) → i < length entries → e ≡ get_or entries i e
      → R k e.key ≡ Equal → new ≡ merged e.cell unit
      → (q : K) → find R q (pairs_of (set entries i (record { cell = new; key = e.key })))
      ≡ cond (eq_by_cmp R q k) (joined merged (find R k (pairs_of entries)) (Some unit)) (find R q (pairs_of entries))
  cell_changed i e h l is t n q =
      ap (find R q) (map-set (λ x. (x.key, x.cell)) entries i (record { cell = new; key = e.key }))
      ∙ find_changed o one merged (pairs_of entries) k unit new i (e.key, e.cell)
      (subst (IsDistinct (eq_by_cmp R)) (sym (keys_of_pairs entries)) h)
      (subst (λ n. i < n) (sym (length-map entries (λ x. (x.key, x.cell)))) l)
      (ap (λ x. (x.key, x.cell)) is ∙ sym (pair_there entries i (e.key, e.cell) e l)) t n q

  -- an entry more
  pub cell_pushed : find R k (pairs_of entries) ≡ None → new ≡ unit
      → (q : K) → find R q (pairs_of (entries ++ record { cell = new; key = k } ∷ []))
      ≡ cond (eq_by_cmp R q k) (joined merged (find R k (pairs_of entries)) (Some unit)) (find R q (pairs_of entries))
  cell_pushed none n q =
      ap (find R q) (map-append (λ x. (x.key, x.cell)) entries _) ∙ find_pushed o one merged (pairs_of entries) k unit new none n q

-- what is read off each key, where one more comes
pub told_push : {K C : Type 0} (told : K → ℕ) (es : List (Entry K C)) (e : Entry K C)
    → map told (keys_of (es ++ e ∷ [])) ≡ map told (keys_of es) ++ told e.key ∷ []
told_push told es e = ap (map told) (map-append (λ x. x.key) es (e ∷ [])) ∙ map-append told (keys_of es) (e.key ∷ [])

-- one entry more in the index
pub indexed_push : {K C : Type 0} (code_of : K → ℕ) (size shift : ℕ) (es : List (Entry K C)) (e : Entry K C) (index : List ℕ)
    (code at value : ℕ) → Indexed size shift index (map code_of (keys_of es)) → code ≡ code_of e.key → IsFree size shift index code at
    → value ≡ word_of size code (length es) → Indexed size shift (set index at value) (map code_of (keys_of (es ++ e ∷ [])))
indexed_push code_of size shift es e index code at value was known free is =
    subst (Indexed size shift (set index at value)) (ap (λ c. map code_of (keys_of es) ++ c ∷ []) known ∙ sym (told_push code_of es e))
    (subst (λ n. Indexed size shift (set index at n) (map code_of (keys_of es) ++ code ∷ []))
    (ap (word_of size code) (length-told code_of es) ∙ sym is) (indexed_more size shift index (map code_of (keys_of es)) was code at free))

-- the next entry of those that are put into an index
pub entries_more : {K C : Type 0} (es : List (Entry K C)) (i : ℕ) (e : Entry K C) → i < length es → e ≡ get_or es i e
    → take (i + 1) es ≡ take i es ++ e ∷ []
entries_more es i e l is = take_more es i e l ∙ ap (λ x. take i es ++ x ∷ []) (sym is)

pub distinct_none : {K : Type 0} (eq : K → K → Bool) → IsDistinct eq []
unfolding IsDistinct
distinct_none eq = tt

-- one entry more, of a key that is not there
pub distinct_push : {K C : Type 0} {R : K → K → Ordering} (o : IsTotalOrder R) (es : List (Entry K C)) (e : Entry K C)
    → IsDistinct (eq_by_cmp R) (keys_of es) → find R e.key (pairs_of es) ≡ None → IsDistinct (eq_by_cmp R) (keys_of (es ++ e ∷ []))
distinct_push {R = R} o es e was none =
    subst (IsDistinct (eq_by_cmp R)) (sym (map-append (λ x. x.key) es (e ∷ [])))
    (IsDistinct-push (eq_by_cmp_equiv o) (keys_of es) e.key was
    (ap (list_any (eq_by_cmp R e.key)) (sym (keys_of_pairs es)) ∙ sym (is_some-find R e.key (pairs_of es)) ∙ ap is_some none))

-- a new cell leaves keys
pub keys_kept : {K C : Type 0} (es : List (Entry K C)) (i : ℕ) (e : Entry K C) (new : C) → e ≡ get_or es i e
    → keys_of (set es i (record { cell = new; key = e.key })) ≡ keys_of es
keys_kept es i e new is = map-set_same (λ x. x.key) es i (record { cell = new; key = e.key }) e (ap (λ x. x.key) is)

-- what follows from what an Ok says, and what holds anyway
pub on_ok : {A E P Q : Type 0} → (r : Result A E) → OnOk r P → (P → Q) → OnOk r Q
on_ok (Ok a) p f = f p
on_ok (Err e) p f = tt

pub either_way : {A E Q : Type 0} → (r : Result A E) → Q → OnOk r Q
either_way (Ok a) q = q
either_way (Err e) q = tt
