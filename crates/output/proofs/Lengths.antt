-- How long the bytes of open steps and of a row are.
-- Assumes nothing.
use Rattle.laws.proofs.Prelude.{ℕ, ◌+◌, ◌*◌, ◌≤◌, ◌≡◌, refl, sym, ap, ◌∙◌, Bool, true, false, false≢true, List, length, get_or, length-append, arith, ap₂, pick, gather}
use Rattle.laws.proofs.Prelude.{bit, sum_below, bits_below, sum_same, sum_both, sum_swap, sum_bound, length_gathered}
use native.Mathlib.Nat.{mul-add}
use Rattle.laws.specs.Sum.{sum_times, sum_groups, bits_bound}
use Rattle.slots.specs.Destination.{destinations, place_of}
use Rattle.output.specs.Forms.Emitted.{emitted, emitted_at, opens_below, opens_last, below_bytes, last_bytes, kind_bytes, actor_bytes, open_count, places}

-- a step that is open has four
pub four_fit : (on : Bool) (kind actor t d m : ℕ) → on ≡ true → length (emitted on kind actor t d) ≤ m → 4 ≤ m
unfolding emitted
four_fit true kind actor t d m e h = h
four_fit false kind actor t d m e h = absurd (false≢true e)

length_emitted : (on : Bool) (kind actor t d : ℕ) → length (emitted on kind actor t d) ≡ 4 * pick on 1 0
unfolding emitted
length_emitted true kind actor t d = refl
length_emitted false kind actor t d = refl

-- lists of four bytes for each of some steps
fours : {A : Type 0} (n : ℕ) (f : ℕ → List A) (g : ℕ → ℕ) → ((k : ℕ) → length (f k) ≡ 4 * g k) → length (gather n f) ≡ 4 * sum_below n g
fours n f g e = length_gathered n f ∙ sum_same n (λ k. length (f k)) (λ k. 4 * g k) (λ k h. e k) ∙ sum_times n 4 g

length_at : (on : ℕ → Bool) (kind actor t : ℕ) → length (emitted_at on kind actor t) ≡ 4 * sum_below destinations (λ d. pick (on d) 1 0)
unfolding emitted_at
length_at on kind actor t = fours destinations (λ d. emitted (on d) kind actor t d) (λ d. pick (on d) 1 0) (λ d. length_emitted (on d) kind actor t d)

-- the number of steps of kind k + 1
kind_count : List ℕ → ℕ → ℕ → ℕ
kind_count below last k = sum_below 32 (λ t. sum_below destinations (λ d. pick (opens_below below k t d) 1 0)) + sum_below destinations (λ d. pick (opens_last last k d) 1 0)

length_kind : (below : List ℕ) (last actor k : ℕ) → length (kind_bytes below last actor k) ≡ 4 * kind_count below last k
unfolding kind_bytes kind_count below_bytes last_bytes
length_kind below last actor k =
    length-append (gather 32 (below_bytes below actor k)) (last_bytes last actor k)
    ∙ ap₂ (λ (x y : ℕ). x + y)
    (fours 32 (below_bytes below actor k) (λ t. sum_below destinations (λ d. pick (opens_below below k t d) 1 0)) (λ t. length_at (opens_below below k t) (k + 1) actor t))
    (length_at (opens_last last k) (k + 1) actor 255)
    ∙ sym (mul-add 4 _ _)

-- the sums over the sets, kind by kind, make the sums over all
counts : (below : List ℕ) (last : ℕ) → sum_below 7 (kind_count below last) ≡ open_count below last
unfolding kind_count open_count bits_below opens_below opens_last
counts below last =
    sum_both 7 (λ k. sum_below 32 (λ t. sum_below destinations (λ d. pick (bit (get_or below (place_of k d) 0) t) 1 0))) (λ k. sum_below destinations (λ d. pick (bit last (place_of k d)) 1 0))
    ∙ ap₂ (λ (x y : ℕ). x + y)
    (sum_same 7 _ _ (λ k h. sum_swap 32 destinations (λ t d. pick (bit (get_or below (place_of k d) 0) t) 1 0)) ∙ sum_groups destinations 7 (λ i. sum_below 32 (λ t. pick (bit (get_or below i 0) t) 1 0)))
    (sum_groups destinations 7 (λ i. pick (bit last i) 1 0))

-- four bytes for each step, whoever the actor is
pub length_actor : (below : List ℕ) (last actor : ℕ) → length (actor_bytes below last actor) ≡ 4 * open_count below last
unfolding actor_bytes
length_actor below last actor =
    fours 7 (kind_bytes below last actor) (kind_count below last) (length_kind below last actor) ∙ ap (λ x. 4 * x) (counts below last)

pub count_bound : (below : List ℕ) (last : ℕ) → open_count below last ≤ 924
unfolding open_count
count_bound below last =
    omega (arith, sum_bound places 32 (λ i. bits_below 32 (get_or below i 0)) (λ i. bits_bound 32 (get_or below i 0)), bits_bound places last)
