-- Numbers in bytes: "All integers of more than one byte are little-endian." The laws hold for every number k of bytes.
-- Assumes nothing.
use Rattle.std.specs.Prelude.{ℕ, zero, suc, ◌+◌, ◌*◌, ◌/◌, ◌%◌, ◌^◌, ◌≤◌, ◌<◌, ◌≡◌, refl, List, [], ◌∷◌, ◌++◌, length, take, drop, get_or}
use Rattle.std.proofs.Common.{add-zero, zero-add, pow-suc, mul-le-mul, arith, sym, ap, ap₂, ◌∙◌, length-append, pow-add, get_or-take, get_or-drop, get_or-append-add, drop-cons}
use Rattle.std.proofs.Math.Nat.{pow-succ', one-le-pow}
use Rattle.std.proofs.Math.Arith.{mod-mul}
use Rattle.std.proofs.Math.ListN.{get_or-append}
use Rattle.laws.specs.Gather.{gather, gather_at}
use Rattle.laws.specs.Over.{over, over_front}

-- the k lowest bytes of x, the lowest first
unfoldable pub bytes_of : ℕ → ℕ → List ℕ
bytes_of zero x = []
bytes_of (suc k) x = x % 256 ∷ bytes_of k (x / 256)

-- the number in the k bytes of l from place i on
unfoldable pub number_at : ℕ → List ℕ → ℕ → ℕ
number_at zero l i = 0
number_at (suc k) l i = get_or l i 0 + 256 * number_at k l (suc i)

-- ---- their length and their bounds
pub length_bytes : (k x : ℕ) → length (bytes_of k x) ≡ k
unfolding bytes_of
length_bytes zero x = refl
length_bytes (suc k) x = ap suc (length_bytes k (x / 256))

pub bytes_below : (k x j : ℕ) → get_or (bytes_of k x) j 0 < 256
unfolding bytes_of
bytes_below zero x j = omega arith
bytes_below (suc k) x zero = omega arith
bytes_below (suc k) x (suc j) = bytes_below k (x / 256) j

next : (i j : ℕ) → suc i + j ≡ i + suc j
next i j = omega arith

pub number_below : (k : ℕ) (l : List ℕ) (i : ℕ) → ((j : ℕ) → j < k → get_or l (i + j) 0 < 256) → number_at k l i < 256 ^ k
unfolding number_at
number_below zero l i h = omega arith
number_below (suc k) l i h =
    let low = rw (add-zero i) at (h 0 (omega arith)) in
    let rest = number_below k l (suc i) (λ j m. rw (next i j) (h (suc j) (omega arith))) in
    omega (arith, low, rest, pow-succ' 256 k)

-- a product of a number of j bytes and one of k bytes
pub product_below : (j k a b : ℕ) → a < 256 ^ j → b < 256 ^ k → a * b < 256 ^ (j + k)
product_below j k a b h m = rw (pow-add 256 j k) (omega (arith, mul-le-mul h m))

-- ---- the part that holds a number
-- the same bytes, the same number
pub number_same : (k : ℕ) (l r : List ℕ) (i j : ℕ) → ((m : ℕ) → m < k → get_or l (i + m) 0 ≡ get_or r (j + m) 0) → number_at k l i ≡ number_at k r j
unfolding number_at
number_same zero l r i j h = refl
number_same (suc k) l r i j h =
    let first : get_or l i 0 ≡ get_or r j 0 = rw (add-zero i, add-zero j) at (h 0 (omega arith)) in
    let rest = number_same k l r (suc i) (suc j) (λ m b. rw (next i m, next j m) (h (suc m) (omega arith))) in
    rw (first, rest)

-- by halves: the first j bytes are the lower ones
pub number_halves : (j k : ℕ) (l : List ℕ) (i : ℕ) → number_at (j + k) l i ≡ number_at j l i + 256 ^ j * number_at k l (i + j)
unfolding number_at
number_halves zero k l i = rw (zero-add k, add-zero i) (omega arith)
number_halves (suc j) k l i =
    let e : suc j + k ≡ suc (j + k) = omega arith in
    rw (e, number_halves j k l (suc i), next i j, pow-succ' 256 j) (omega arith)

pub number_two : (l : List ℕ) (i a b : ℕ) → a ≡ get_or l i 0 → b ≡ get_or l (i + 1) 0 → a + 256 * b ≡ number_at 2 l i
unfolding number_at
number_two l i a b e f = let n : i + 1 ≡ suc i = omega arith in omega (arith, e, rw n at f)

-- in the front of a list, and behind it
pub number_front : (k : ℕ) (a b : List ℕ) (i : ℕ) → i + k ≤ length a → number_at k (a ++ b) i ≡ number_at k a i
number_front k a b i h = number_same k (a ++ b) a i i (λ j m. get_or-append a b 0 (i + j) (omega arith))

pub number_behind : (k : ℕ) (a b : List ℕ) (n i : ℕ) → length a ≡ n → number_at k (a ++ b) (n + i) ≡ number_at k b i
number_behind k a b n i e =
    number_same k (a ++ b) b (n + i) i
    (λ j m. let p : n + i + j ≡ length a + (i + j) = omega (arith, e) in rw p (get_or-append-add a b (i + j) 0))

-- in the part itself
pub number_part : (k : ℕ) (l : List ℕ) (i : ℕ) → number_at k l i ≡ number_at k (take k (drop i l)) 0
number_part k l i =
    number_same k l (take k (drop i l)) i 0
    (λ j m. rw (zero-add j) (sym (get_or-take k (drop i l) j 0 m ∙ get_or-drop i l j 0)))

-- in an overwritten front
pub number_over : (k : ℕ) (w l : List ℕ) (i : ℕ) → length w ≤ length l → i + k ≤ length w → number_at k (over w l) i ≡ number_at k w i
number_over k w l i h f = number_same k (over w l) w i i (λ j m. over_front w l (i + j) 0 h (omega arith))

-- at place j of list t, of lists of one length w
pub number_gather : (f : ℕ → List ℕ) (w : ℕ) → ((t : ℕ) → length (f t) ≡ w) → (k n t j : ℕ) → t < n → j + k ≤ w
    → number_at k (gather n f) (w * t + j) ≡ number_at k (f t) j
number_gather f w wide k n t j h m =
    number_same k (gather n f) (f t) (w * t + j) j
    (λ i b. let p : w * t + j + i ≡ w * t + (j + i) = omega arith in rw p (gather_at f w wide n t (j + i) 0 h (omega arith)))

-- ---- written, then read, and read, then written
pub number_bytes : (k x : ℕ) → number_at k (bytes_of k x) 0 ≡ x % 256 ^ k
unfolding number_at bytes_of
number_bytes zero x = omega arith
number_bytes (suc k) x =
    let rest = number_behind k (x % 256 ∷ []) (bytes_of k (x / 256)) 1 0 refl ∙ number_bytes k (x / 256) in
    rw (rest, pow-suc 256 k, mod-mul x {m = 256 ^ k} {c = 256} (one-le-pow k 256 (omega arith)) (omega arith)) (omega arith)

pub bytes_back : (k : ℕ) (l : List ℕ) (i : ℕ) → i + k ≤ length l → ((j : ℕ) → j < k → get_or l (i + j) 0 < 256) → bytes_of k (number_at k l i) ≡ take k (drop i l)
unfolding number_at bytes_of
bytes_back zero l i h b = refl
bytes_back (suc k) l i h b =
    let low = rw (add-zero i) at (b 0 (omega arith)) in
    let first : number_at (suc k) l i % 256 ≡ get_or l i 0 = omega arith in
    let second : number_at (suc k) l i / 256 ≡ number_at k l (suc i) = omega arith in
    let rest = bytes_back k l (suc i) (omega arith) (λ j m. rw (next i j) (b (suc j) (omega arith))) in
    rw (drop-cons l i 0 (omega arith)) (ap₂ (λ (a : ℕ) (r : List ℕ). a ∷ r) first (ap (bytes_of k) second ∙ rest))

-- ---- two numbers of k bytes for each t, over the front of a buffer
module _ (k : ℕ) (f g : ℕ → ℕ) where
  abbrev pair : ℕ → List ℕ
  pair t = bytes_of k (f t) ++ bytes_of k (g t)

  pub length_pair : (t : ℕ) → length (pair t) ≡ k + k
  length_pair t = length-append (bytes_of k (f t)) (bytes_of k (g t)) ∙ rw (length_bytes k (f t), length_bytes k (g t))
