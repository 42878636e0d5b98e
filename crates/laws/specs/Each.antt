-- A list whose first elements are rewritten, each by its place.
-- Assumes nothing.
use Rattle.std.specs.Prelude.{ℕ, zero, suc, ◌+◌, ◌≤◌, ◌<◌, ◌≡◌, refl, List, [], ◌∷◌, map, length, get_or, set}
use Rattle.std.proofs.Common.{ap, sym, ◌∙◌, add-one, le_antisymm, not-suc-le-zero, le_of_suc-le-suc, arith}
use Rattle.std.proofs.lemmas.List.{length-map}

-- the first n elements rewritten, the one at place i by `f i`
unfoldable pub rewrite_first : {A : Type 0} → ℕ → (ℕ → A → A) → List A → List A
rewrite_first zero f l = l
rewrite_first (suc n) f [] = []
rewrite_first (suc n) f (x ∷ l) = f 0 x ∷ rewrite_first n (λ i. f (suc i)) l

pub length_rewrite_first : {A : Type 0} (n : ℕ) (f : ℕ → A → A) (l : List A) → length (rewrite_first n f l) ≡ length l
unfolding rewrite_first
length_rewrite_first zero f l = refl
length_rewrite_first (suc n) f [] = refl
length_rewrite_first (suc n) f (x ∷ l) = ap suc (length_rewrite_first n (λ i. f (suc i)) l)

more : {A : Type 0} (n : ℕ) (f : ℕ → A → A) (l : List A) (d : A) → set (rewrite_first n f l) n (f n (get_or (rewrite_first n f l) n d)) ≡ rewrite_first (suc n) f l
unfolding rewrite_first
more zero f [] d = refl
more zero f (x ∷ l) d = refl
more (suc n) f [] d = refl
more (suc n) f (x ∷ l) d = ap (λ r. f 0 x ∷ r) (more n (λ i. f (suc i)) l d)

-- what stands at a place below n, and at one from n on
pub rewritten : {A : Type 0} (n : ℕ) (f : ℕ → A → A) (l : List A) (i : ℕ) (d : A) → i < n → i < length l → get_or (rewrite_first n f l) i d ≡ f i (get_or l i d)
unfolding rewrite_first
rewritten zero f l i d h m = absurd (not-suc-le-zero h)
rewritten (suc n) f [] i d h m = absurd (not-suc-le-zero m)
rewritten (suc n) f (x ∷ l) zero d h m = refl
rewritten (suc n) f (x ∷ l) (suc i) d h m = rewritten n (λ k. f (suc k)) l i d (le_of_suc-le-suc h) (le_of_suc-le-suc m)

pub not_rewritten : {A : Type 0} (n : ℕ) (f : ℕ → A → A) (l : List A) (i : ℕ) (d : A) → n ≤ i → get_or (rewrite_first n f l) i d ≡ get_or l i d
unfolding rewrite_first
not_rewritten zero f l i d h = refl
not_rewritten (suc n) f [] i d h = refl
not_rewritten (suc n) f (x ∷ l) zero d h = absurd (not-suc-le-zero h)
not_rewritten (suc n) f (x ∷ l) (suc i) d h = not_rewritten n (λ k. f (suc k)) l i d (le_of_suc-le-suc h)

-- a turn of a loop: at place n it stores what the rule makes of the element there
pub rewrite_again : {A : Type 0} (n : ℕ) (f : ℕ → A → A) (l r : List A) (d v : A) → r ≡ rewrite_first n f l → v ≡ f n (get_or r n d) → set r n v ≡ rewrite_first (n + 1) f l
rewrite_again n f l r d v e h = rw (h, e, add-one) (more n f l d)

-- a loop's start and its end
pub rewrite_start : {A : Type 0} (f : ℕ → A → A) (l : List A) → l ≡ rewrite_first 0 f l
unfolding rewrite_first
rewrite_start f l = refl

pub rewrite_done : {A : Type 0} (k n : ℕ) (f : ℕ → A → A) (l r : List A) → k ≤ n → n ≤ k → r ≡ rewrite_first k f l → r ≡ rewrite_first n f l
rewrite_done k n f l r h m e = rw (le_antisymm m h) e

-- a list as long as what a map makes of it
pub length_of_map : {A B : Type 0} (f : A → B) (l : List A) (n : ℕ) → length (map f l) ≡ n → length l ≡ n
length_of_map f l n e = sym (length-map l f) ∙ e

-- a rule that keeps what stands at each place below n
pub rewrite_kept : {A : Type 0} (n : ℕ) (f : ℕ → A → A) (l : List A) (d : A) → ((i : ℕ) → i < n → f i (get_or l i d) ≡ get_or l i d) → rewrite_first n f l ≡ l
unfolding rewrite_first
rewrite_kept zero f l d h = refl
rewrite_kept (suc n) f [] d h = refl
rewrite_kept (suc n) f (x ∷ l) d h =
    rw (h 0 (omega arith), rewrite_kept n (λ i. f (suc i)) l d (λ i m. h (suc i) (omega arith)))

-- a rule that keeps what stands at each place from m up to n
pub rewrite_upto : {A : Type 0} (m n : ℕ) (f : ℕ → A → A) (l : List A) (d : A) → m ≤ n → ((i : ℕ) → m ≤ i → i < n → f i (get_or l i d) ≡ get_or l i d)
    → rewrite_first m f l ≡ rewrite_first n f l
unfolding rewrite_first
rewrite_upto zero n f l d h k = sym (rewrite_kept n f l d (λ i b. k i (omega arith) b))
rewrite_upto (suc m) zero f l d h k = absurd (omega (arith, h))
rewrite_upto (suc m) (suc n) f [] d h k = refl
rewrite_upto (suc m) (suc n) f (x ∷ l) d h k =
    ap (λ r. f 0 x ∷ r) (rewrite_upto m n (λ i. f (suc i)) l d (omega (arith, h)) (λ i a b. k (suc i) (omega (arith, a)) (omega (arith, b))))

-- a turn of a loop that stores nothing: the rule keeps what stands at place n
pub rewrite_past : {A : Type 0} (n : ℕ) (f : ℕ → A → A) (l r : List A) (d : A) → r ≡ rewrite_first n f l → f n (get_or r n d) ≡ get_or r n d → r ≡ rewrite_first (n + 1) f l
rewrite_past n f l r d e h =
    let k : get_or r n d ≡ get_or l n d = rw e (not_rewritten n f l n d (omega arith)) in
    e ∙ rewrite_upto n (n + 1) f l d (omega arith) (λ i a b. let z : i ≡ n = omega (arith, a, b) in rw z (rw k at h))
