-- Workers leave the common array, the last first, and each leaves something at the end of some lists.
use Rattle.std.proofs.Common.{◌≡◌, ℕ, List, [], ◌∷◌, ◌++◌, map, reverse, Option, None, refl, sym, ap, ◌∙◌, append-nil, append_assoc}
use Rattle.std.specs.Ordering.{nat_cmp}
use Rattle.std.specs.Cmp.{nat_cmp_total}
use Rattle.std.specs.FinMap.{nat_cmp-IsAntisymmetric}
use Rattle.std.proofs.lemmas.List.{map-append, reverse-append, reverse-reverse}
use Rattle.mr_defs.specs.Commutative.{IsCommutative, joined, joined_by}
use Rattle.mr_defs.specs.CommutativeLaws.{joined_by-push}
use Rattle.mr_defs.specs.Faulty.{Noted}
use Rattle.mr_defs.specs.Keyed.{lesser}
use Rattle.mr_defs.proofs.Lesser.{lesser_commutative}
use Rattle.mr_phase.specs.Spread.{noted_all}

laws : IsCommutative (lesser nat_cmp)
laws = lesser_commutative nat_cmp_total nat_cmp-IsAntisymmetric

-- items that are turned round
pub turning : {X : Type 0} (all now left turned turned' : List X) (x : X) → all ≡ now ++ reverse turned → now ≡ left ++ x ∷ []
    → turned' ≡ turned ++ x ∷ [] → all ≡ left ++ reverse turned'
turning all now left turned turned' x was now_is is =
    was ∙ ap (λ l. l ++ reverse turned) now_is ∙ append_assoc left (x ∷ []) (reverse turned)
    ∙ ap (λ l. left ++ l) (sym (reverse-append turned (x ∷ []))) ∙ ap (λ l. left ++ reverse l) (sym is)

pub is_turned : {X : Type 0} (all left turned : List X) → all ≡ left ++ reverse turned → left ≡ [] → turned ≡ reverse all
is_turned all left turned was none = sym (reverse-reverse turned) ∙ ap reverse (sym (was ∙ ap (λ l. l ++ reverse turned) none))

module _ {H A B : Type 0} (f : H → A) (g : H → B) (noted : H → Noted ℕ) where
  -- some are left, and what the others left is there, in the order in which they went
  pub record Leaving (all left : List H) (fs : List A) (gs : List B) (faults : Noted ℕ) : Type 0 where
    pub gone : List H
    pub is : all ≡ left ++ reverse gone
    pub fs_are : fs ≡ map f gone
    pub gs_are : gs ≡ map g gone
    pub faults_are : faults ≡ noted_all nat_cmp noted gone

  pub begins : (all : List H) (faults : Noted ℕ) → faults.malformed ≡ None → faults.outside ≡ None → faults.twice ≡ None
      → faults.over ≡ None → Leaving all all [] [] faults
  begins all faults m o t v = record {
    gone = [];
    is = sym (append-nil all);
    fs_are = refl;
    gs_are = refl;
    faults_are = λ i. record { malformed = m i; outside = o i; twice = t i; over = v i };
  }

  field : (read : Noted ℕ → Option ℕ) (gone : List H) (h : H) (before more after : Noted ℕ)
      → read after ≡ joined (lesser nat_cmp) (read before) (read more) → before ≡ noted_all nat_cmp noted gone
      → read (noted_all nat_cmp noted gone) ≡ joined_by (lesser nat_cmp) (λ x. read (noted x)) gone → more ≡ noted h
      → read after ≡ joined_by (lesser nat_cmp) (λ x. read (noted x)) (gone ++ h ∷ [])
  field read gone h before more after e was all is =
      e ∙ ap (λ b. joined (lesser nat_cmp) (read b) (read more)) was ∙ ap (λ b. joined (lesser nat_cmp) b (read more)) all
      ∙ ap (λ m. joined (lesser nat_cmp) (joined_by (lesser nat_cmp) (λ x. read (noted x)) gone) (read m)) is
      ∙ sym (joined_by-push laws (λ x. read (noted x)) gone h)

  pub goes_on : (all now left : List H) (h : H) (fs fs' : List A) (gs gs' : List B) (before more after : Noted ℕ)
      → Leaving all now fs gs before → now ≡ left ++ h ∷ [] → fs' ≡ fs ++ f h ∷ [] → gs' ≡ gs ++ g h ∷ []
      → after.malformed ≡ joined (lesser nat_cmp) before.malformed more.malformed
      → after.outside ≡ joined (lesser nat_cmp) before.outside more.outside
      → after.twice ≡ joined (lesser nat_cmp) before.twice more.twice → after.over ≡ joined (lesser nat_cmp) before.over more.over
      → more ≡ noted h → Leaving all left fs' gs' after
  goes_on all now left h fs fs' gs gs' before more after was now_is fs_is gs_is m o t v is =
      let a = field (λ n. n.malformed) was.gone h before more after m was.faults_are refl is in
      let b = field (λ n. n.outside) was.gone h before more after o was.faults_are refl is in
      let c = field (λ n. n.twice) was.gone h before more after t was.faults_are refl is in
      let d = field (λ n. n.over) was.gone h before more after v was.faults_are refl is in
      record {
        gone = was.gone ++ h ∷ [];
        is = turning all now left was.gone (was.gone ++ h ∷ []) h was.is now_is refl;
        fs_are = fs_is ∙ ap (λ l. l ++ f h ∷ []) was.fs_are ∙ sym (map-append f was.gone (h ∷ []));
        gs_are = gs_is ∙ ap (λ l. l ++ g h ∷ []) was.gs_are ∙ sym (map-append g was.gone (h ∷ []));
        faults_are = λ i. record { malformed = a i; outside = b i; twice = c i; over = d i };
      }

  module _ (all left : List H) (fs : List A) (gs : List B) (faults : Noted ℕ) (was : Leaving all left fs gs faults) (none : left ≡ []) where
    all_gone : was.gone ≡ reverse all
    all_gone = is_turned all left was.gone was.is none

    pub fs_left : fs ≡ map f (reverse all)
    fs_left = was.fs_are ∙ ap (map f) all_gone

    pub gs_left : gs ≡ map g (reverse all)
    gs_left = was.gs_are ∙ ap (map g) all_gone

    pub faults_left : faults ≡ noted_all nat_cmp noted (reverse all)
    faults_left = was.faults_are ∙ ap (noted_all nat_cmp noted) all_gone
