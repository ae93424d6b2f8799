-- What is printed, from the back to the front, and line by line.
use Rattle.std.proofs.Common.{◌≡◌, ℕ, suc, ◌+◌, ◌<◌, List, [], ◌∷◌, ◌++◌, length, map, get_or, take, sym, ap, ◌∙◌, arith, append_assoc}
use Rattle.std.proofs.Common.{append-nil}
use Rattle.std.proofs.lemmas.List.{take_more, length-map, length-take-le, map-append}
use Rattle.mr_items.specs.Report.{Work, worker_line, worker_lines, round_lines}

pub back : (r y s x t : List ℕ) → s ≡ r ++ y → t ≡ s ++ x → t ≡ r ++ (y ++ x)
back r y s x t d e = e ∙ ap (λ l. l ++ x) d ∙ append_assoc r y x

-- one worker more, and one round more
pub worker_more : (r w : ℕ) (hs : List Work) (h : Work)
    → worker_lines r w (hs ++ h ∷ []) ≡ worker_lines r w hs ++ worker_line r (w + length hs) h
worker_more r w [] h = append-nil (worker_line r w h) ∙ ap (λ n. worker_line r n h) (omega arith)
worker_more r w (g ∷ hs) h =
    ap (λ l. worker_line r w g ++ l) (worker_more r (suc w) hs h ∙ ap (λ n. worker_lines r (suc w) hs ++ worker_line r n h) (omega arith))
    ∙ sym (append_assoc (worker_line r w g) (worker_lines r (suc w) hs) (worker_line r (w + length (g ∷ hs)) h))

pub round_more : (r : ℕ) (rounds : List (List Work)) (hs : List Work)
    → round_lines r (rounds ++ hs ∷ []) ≡ round_lines r rounds ++ worker_lines (r + length rounds) 0 hs
round_more r [] hs = append-nil (worker_lines r 0 hs) ∙ ap (λ n. worker_lines n 0 hs) (omega arith)
round_more r (gs ∷ rounds) hs =
    ap (λ l. worker_lines r 0 gs ++ l)
    (round_more (suc r) rounds hs ∙ ap (λ n. round_lines (suc r) rounds ++ worker_lines n 0 hs) (omega arith))
    ∙ sym (append_assoc (worker_lines r 0 gs) (round_lines (suc r) rounds) (worker_lines (r + length (gs ∷ rounds)) 0 hs))

-- what f makes of one item more
taken : {X Y : Type 0} (f : X → Y) (xs : List X) (i : ℕ) (x : X) → i < length xs → x ≡ get_or xs i x
    → map f (take (i + 1) xs) ≡ map f (take i xs) ++ f x ∷ []
taken f xs i x h is = ap (map f) (take_more xs i x h ∙ ap (λ y. take i xs ++ y ∷ []) (sym is)) ∙ map-append f (take i xs) (x ∷ [])

count_taken : {X Y : Type 0} (f : X → Y) (xs : List X) (i : ℕ) → i < length xs → length (map f (take i xs)) ≡ i
count_taken f xs i h = length-map (take i xs) f ∙ length-take-le i xs (omega (arith, h))

pub worker_step : {X : Type 0} (f : X → Work) (r w : ℕ) (xs : List X) (i : ℕ) (x : X) (start text after : List ℕ) → i < length xs
    → x ≡ get_or xs i x → w ≡ i → text ≡ start ++ worker_lines r 0 (map f (take i xs)) → after ≡ text ++ worker_line r w (f x)
    → after ≡ start ++ worker_lines r 0 (map f (take (i + 1) xs))
worker_step f r w xs i x start text after h is same so_far more =
    more
    ∙ ap (λ t. t ++ worker_line r w (f x)) so_far
    ∙ append_assoc start (worker_lines r 0 (map f (take i xs))) (worker_line r w (f x))
    ∙ ap (λ n. start ++ (worker_lines r 0 (map f (take i xs)) ++ worker_line r n (f x))) (same ∙ sym (count_taken f xs i h) ∙ omega arith)
    ∙ ap (λ l. start ++ l) (sym (worker_more r 0 (map f (take i xs)) (f x)))
    ∙ ap (λ l. start ++ worker_lines r 0 l) (sym (taken f xs i x h is))

pub round_step : {X : Type 0} (f : X → List Work) (n : ℕ) (xs : List X) (i : ℕ) (x : X) (text after : List ℕ) → i < length xs
    → x ≡ get_or xs i x → n ≡ i + 1 → text ≡ round_lines 1 (map f (take i xs)) → after ≡ text ++ worker_lines n 0 (f x)
    → after ≡ round_lines 1 (map f (take (i + 1) xs))
round_step f n xs i x text after h is same so_far more =
    more
    ∙ ap (λ t. t ++ worker_lines n 0 (f x)) so_far
    ∙ ap (λ m. round_lines 1 (map f (take i xs)) ++ worker_lines m 0 (f x)) (let c = count_taken f xs i h in omega (arith, same, c))
    ∙ sym (round_more 1 (map f (take i xs)) (f x))
    ∙ ap (round_lines 1) (sym (taken f xs i x h is))
