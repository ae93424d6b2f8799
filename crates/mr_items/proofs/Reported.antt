-- A report fixes its lists.
use Rattle.std.proofs.Common.{◌≡◌, ℕ, suc, ◌+◌, ◌<◌, ◌≤◌, ◌^◌, List, [], ◌∷◌, ◌++◌, length, refl, sym, ap, ap₂, subst, ◌∙◌, arith}
use Rattle.std.proofs.Common.{append_assoc}
use Rattle.std.specs.Prelude.{decimal, codes, All}
use Rattle.std.specs.Str.Parse.{AllDigits}
use Rattle.std.proofs.lemmas.Fmt.{decimal_injective, decimal_is_IsNumeral}
use Rattle.std.proofs.lemmas.Str.Parse.{digit_from_value}
use Rattle.std.proofs.lemmas.List.{append_cancel_left}
use Rattle.std.proofs.lemmas.List.Elements.{All-head, All-tail}
use Rattle.mr_items.specs.Report.{Work, tasks_text, worker_line, worker_lines, round_lines, report_text, IsNumbered, IsReportable}

-- a list that begins with no digit
abbrev Stops : List ℕ → Type 0
Stops [] = Unit {0}
Stops (x ∷ xs) = 48 ≤ x → x ≤ 57 → ⊥

abbrev head_of : {X : Type 0} → X → List X → X
head_of d [] = d
head_of d (x ∷ xs) = x

abbrev tail_of : {X : Type 0} → List X → List X
tail_of [] = []
tail_of (x ∷ xs) = xs

abbrev IsSome : {X : Type 0} → List X → Type 0
IsSome [] = ⊥
IsSome (x ∷ xs) = Unit {0}

-- digits end where a list begins with none
cut : (ds es x y : List ℕ) → AllDigits 10 ds → AllDigits 10 es → Stops x → Stops y → ds ++ x ≡ es ++ y → (ds ≡ es) × (x ≡ y)
cut [] [] x y p q s t e = (refl, e)
cut [] (c ∷ es) x y p q s t e = let r = digit_from_value c q.0 in absurd (subst Stops e s r.0 r.1)
cut (d ∷ ds) [] x y p q s t e = let r = digit_from_value d p.0 in absurd (subst Stops (sym e) t r.0 r.1)
cut (d ∷ ds) (c ∷ es) x y p q s t e =
    let r = cut ds es x y p.1 q.1 s t (ap tail_of e) in
    (ap₂ (λ a b. a ∷ b) (ap (head_of 0) e) r.0, r.1)

number : (m n : ℕ) (x y : List ℕ) → m < 2 ^ 64 → n < 2 ^ 64 → Stops x → Stops y → decimal m ++ x ≡ decimal n ++ y → (m ≡ n) × (x ≡ y)
number m n x y p q s t e =
    let r = cut (decimal m) (decimal n) x y (decimal_is_IsNumeral m p).0.1 (decimal_is_IsNumeral n q).0.1 s t e in
    (decimal_injective m n p q r.0, r.1)

abbrev Small : ℕ → Type 0
Small t = t < 2 ^ 64

abbrev Some : List Work → Type 0
Some workers = 0 < length workers

abbrev Numbered : List Work → Type 0
Numbered workers = (length workers < 2 ^ 64) × All IsNumbered workers

-- the tasks of a line and what follows it
abbrev after_tasks : List ℕ → List ℕ → List ℕ
after_tasks [] x = 10 ∷ x
after_tasks (t ∷ ts) x = 32 ∷ (decimal t ++ after_tasks ts x)

after_stops : (ts x : List ℕ) → Stops (after_tasks ts x)
after_stops [] x = λ a b. omega (arith, a)
after_stops (t ∷ ts) x = λ a b. omega (arith, a)

tasks_cut : (ts us x y : List ℕ) → All Small ts → All Small us → after_tasks ts x ≡ after_tasks us y → (ts ≡ us) × (x ≡ y)
tasks_cut [] [] x y p q e = (refl, ap tail_of e)
tasks_cut [] (u ∷ us) x y p q e = let a : 10 ≡ 32 = ap (head_of 0) e in absurd (omega (arith, a))
tasks_cut (t ∷ ts) [] x y p q e = let a : 32 ≡ 10 = ap (head_of 0) e in absurd (omega (arith, a))
tasks_cut (t ∷ ts) (u ∷ us) x y p q e =
    let r = number t u (after_tasks ts x) (after_tasks us y) (All-head Small t ts p) (All-head Small u us q) (after_stops ts x)
    (after_stops us y) (ap tail_of e) in
    let s = tasks_cut ts us x y (All-tail Small t ts p) (All-tail Small u us q) r.1 in
    (ap₂ (λ a b. a ∷ b) r.0 s.0, s.1)

after_is : (ts x : List ℕ) → (tasks_text ts ++ 10 ∷ []) ++ x ≡ after_tasks ts x
after_is [] x = refl
after_is (t ∷ ts) x =
    ap (λ l. l ++ x) (append_assoc (32 ∷ decimal t) (tasks_text ts) (10 ∷ []))
    ∙ append_assoc (32 ∷ decimal t) (tasks_text ts ++ 10 ∷ []) x
    ∙ ap (λ l. 32 ∷ (decimal t ++ l)) (after_is ts x)

-- a line and what follows it
line_with : ℕ → ℕ → Work → List ℕ → List ℕ
line_with r w h x = codes "round "
    ++ (decimal r ++ (codes " worker " ++ (decimal w ++ (codes " cells " ++ (decimal h.1 ++ (codes " tasks" ++ after_tasks h.0 x))))))

line_is : (r w : ℕ) (h : Work) (x : List ℕ) → worker_line r w h ++ x ≡ line_with r w h x
unfolding line_with
line_is r w h x =
    ap (λ l. codes "round " ++ l) (
    append_assoc (decimal r) _ x
    ∙ ap (λ l. decimal r ++ (codes " worker " ++ l)) (
    append_assoc (decimal w) _ x
    ∙ ap (λ l. decimal w ++ (codes " cells " ++ l)) (
    append_assoc (decimal h.1) _ x
    ∙ ap (λ l. decimal h.1 ++ (codes " tasks" ++ l)) (after_is h.0 x)
    )
    )
    )

record SameLine (r s w v : ℕ) (h g : Work) (x y : List ℕ) : Type 0 where
  round : r ≡ s
  worker : w ≡ v
  work : h ≡ g
  rest : x ≡ y

line_cut : (r s w v : ℕ) (h g : Work) (x y : List ℕ) → r < 2 ^ 64 → s < 2 ^ 64 → w < 2 ^ 64 → v < 2 ^ 64 → IsNumbered h → IsNumbered g
    → line_with r w h x ≡ line_with s v g y → SameLine r s w v h g x y
unfolding line_with
line_cut r s w v h g x y rs ss ws vs hs gs e =
    let a = number r s _ _ rs ss (λ a b. omega (arith, a)) (λ a b. omega (arith, a)) (append_cancel_left (codes "round ") _ _ e) in
    let b = number w v _ _ ws vs (λ a b. omega (arith, a)) (λ a b. omega (arith, a)) (append_cancel_left (codes " worker ") _ _ a.1) in
    let c = number h.1 g.1 _ _ hs.cells gs.cells (λ a b. omega (arith, a)) (λ a b. omega (arith, a))
    (append_cancel_left (codes " cells ") _ _ b.1) in
    let d = tasks_cut h.0 g.0 x y hs.tasks gs.tasks (append_cancel_left (codes " tasks") _ _ c.1) in
    record { round = a.0; worker = b.0; work = ap₂ (λ (t : List ℕ) (n : ℕ). (t, n)) d.0 c.0; rest = d.1 }

line_some : (r w : ℕ) (h : Work) (x y : List ℕ) → worker_line r w h ++ x ≡ y → IsSome y
line_some r w h x y e = subst IsSome e tt

-- rounds that each have a worker, from a round on
record AreFrom (r : ℕ) (rounds : List (List Work)) : Type 0 where
  few : r + length rounds < 2 ^ 64
  some : All (λ workers. 0 < length workers) rounds
  numbers : All (λ workers. (length workers < 2 ^ 64) × All IsNumbered workers) rounds

rest_of : (r : ℕ) (workers : List Work) (rounds : List (List Work)) → AreFrom r (workers ∷ rounds) → AreFrom (suc r) rounds
rest_of r workers rounds h =
    record { few = omega (arith, h.few); some = All-tail Some workers rounds h.some; numbers = All-tail Numbered workers rounds h.numbers }

-- a line of a round is none of the next round
other_round : (r w : ℕ) (h : Work) (x : List ℕ) (rounds : List (List Work)) → r < 2 ^ 64 → w < 2 ^ 64 → IsNumbered h
    → AreFrom (suc r) rounds → worker_line r w h ++ x ≡ round_lines (suc r) rounds → ⊥
other_round r w h x [] rs ws hs are e = line_some r w h x [] e
other_round r w h x ([] ∷ rounds) rs ws hs are e = let a : 0 < length {A = Work} [] =
    All-head (λ workers. 0 < length workers) [] rounds are.some in omega (arith, a)
other_round r w h x ((g ∷ gs) ∷ rounds) rs ws hs are e =
    let few = are.few in
    let all = All-head (λ workers. (length workers < 2 ^ 64) × All IsNumbered workers) (g ∷ gs) rounds are.numbers in
    let same = line_cut r (suc r) w 0 h g x (worker_lines (suc r) 1 gs ++ round_lines (suc (suc r)) rounds) rs (omega (arith, few)) ws
    (omega arith) hs (All-head IsNumbered g gs all.1)
    (sym (line_is r w h x) ∙ e ∙ append_assoc (worker_line (suc r) 0 g) (worker_lines (suc r) 1 gs) (round_lines (suc (suc r)) rounds)
    ∙ line_is (suc r) 0 g _) in
    let no = same.round in omega (arith, no)

-- the workers of a round, and what follows it
round_cut : (r w : ℕ) (hs gs : List Work) (xs ys : List (List Work)) → r < 2 ^ 64 → w + length hs < 2 ^ 64 → w + length gs < 2 ^ 64
    → All IsNumbered hs → All IsNumbered gs → AreFrom (suc r) xs → AreFrom (suc r) ys
    → worker_lines r w hs ++ round_lines (suc r) xs ≡ worker_lines r w gs ++ round_lines (suc r) ys
    → (hs ≡ gs) × (round_lines (suc r) xs ≡ round_lines (suc r) ys)
round_cut r w [] [] xs ys rs hf gf hn gn xa ya e = (refl, e)
round_cut r w [] (g ∷ gs) xs ys rs hf gf hn gn xa ya e =
    absurd (other_round r w g (worker_lines r (suc w) gs ++ round_lines (suc r) ys) xs rs (omega (arith, gf))
    (All-head IsNumbered g gs gn) xa (sym (e ∙ append_assoc (worker_line r w g) (worker_lines r (suc w) gs) (round_lines (suc r) ys))))
round_cut r w (h ∷ hs) [] xs ys rs hf gf hn gn xa ya e =
    absurd (other_round r w h (worker_lines r (suc w) hs ++ round_lines (suc r) xs) ys rs (omega (arith, hf))
    (All-head IsNumbered h hs hn) ya (sym (append_assoc (worker_line r w h) (worker_lines r (suc w) hs) (round_lines (suc r) xs)) ∙ e))
round_cut r w (h ∷ hs) (g ∷ gs) xs ys rs hf gf hn gn xa ya e =
    let same = line_cut r r w w h g (worker_lines r (suc w) hs ++ round_lines (suc r) xs)
    (worker_lines r (suc w) gs ++ round_lines (suc r) ys) rs rs (omega (arith, hf)) (omega (arith, hf)) (All-head IsNumbered h hs hn)
    (All-head IsNumbered g gs gn)
    (sym (line_is r w h _) ∙ sym (append_assoc (worker_line r w h) (worker_lines r (suc w) hs) (round_lines (suc r) xs)) ∙ e
    ∙ append_assoc (worker_line r w g) (worker_lines r (suc w) gs) (round_lines (suc r) ys) ∙ line_is r w g _) in
    let next = round_cut r (suc w) hs gs xs ys rs (omega (arith, hf)) (omega (arith, gf)) (All-tail IsNumbered h hs hn)
    (All-tail IsNumbered g gs gn) xa ya same.rest in
    (ap₂ (λ a b. a ∷ b) same.work next.0, next.1)

-- no rounds are none that have a worker
none : (r : ℕ) (hs : List Work) (xs : List (List Work)) → AreFrom r (hs ∷ xs) → [] ≡ round_lines r (hs ∷ xs) → ⊥
none r [] xs are e = let a : 0 < length {A = Work} [] = All-head (λ workers. 0 < length workers) [] xs are.some in omega (arith, a)
none r (h ∷ hs) xs are e = line_some r 0 h (worker_lines r 1 hs ++ round_lines (suc r) xs) []
    (sym (e ∙ append_assoc (worker_line r 0 h) (worker_lines r 1 hs) (round_lines (suc r) xs)))

fixed_from : (r : ℕ) (xs ys : List (List Work)) → AreFrom r xs → AreFrom r ys → round_lines r xs ≡ round_lines r ys → xs ≡ ys
fixed_from r [] [] p q e = refl
fixed_from r [] (gs ∷ ys) p q e = absurd (none r gs ys q e)
fixed_from r (hs ∷ xs) [] p q e = absurd (none r hs xs p (sym e))
fixed_from r (hs ∷ xs) (gs ∷ ys) p q e =
    let few = p.few in
    let all = All-head (λ workers. (length workers < 2 ^ 64) × All IsNumbered workers) hs xs p.numbers in
    let all' = All-head (λ workers. (length workers < 2 ^ 64) × All IsNumbered workers) gs ys q.numbers in
    let same = round_cut r 0 hs gs xs ys (omega (arith, few)) (omega (arith, all.0)) (omega (arith, all'.0)) all.1 all'.1
    (rest_of r hs xs p) (rest_of r gs ys q) e in
    ap₂ (λ a b. a ∷ b) same.0 (fixed_from (suc r) xs ys (rest_of r hs xs p) (rest_of r gs ys q) same.1)

pub report_fixes_rounds : (xs ys : List (List Work)) → IsReportable xs → IsReportable ys → report_text xs ≡ report_text ys → xs ≡ ys
report_fixes_rounds xs ys p q e = fixed_from 1 xs ys (record { few = omega (arith, p.few); some = p.some; numbers = p.numbers })
    (record { few = omega (arith, q.few); some = q.some; numbers = q.numbers }) e
