-- Numbers in bytes, written and read back: from the laws of Little in specs/.
-- Assumes nothing.
use Rattle.std.specs.Prelude.{ℕ, suc, ◌+◌, ◌*◌, ◌%◌, ◌^◌, ◌≤◌, ◌<◌, ◌≡◌, List, ◌++◌, length}
use Rattle.std.proofs.Common.{add-zero, mod-eq_of_lt, mul-le-mul_left, mul-suc, arith, sym, ap, ◌∙◌, take_all}
use Rattle.laws.specs.Gather.{gather, length_gather}
use Rattle.laws.specs.Over.{over}
use Rattle.laws.specs.Little.{bytes_of, number_at, length_bytes, bytes_below, number_front, number_behind, number_over, number_gather, number_bytes, bytes_back, length_pair}

-- a number that fits
pub number_back : (k x : ℕ) → x < 256 ^ k → number_at k (bytes_of k x) 0 ≡ x
number_back k x h = number_bytes k x ∙ mod-eq_of_lt h

-- the k lowest bytes of x as a number have the same bytes
pub bytes_again : (k x : ℕ) → bytes_of k (x % 256 ^ k) ≡ bytes_of k x
bytes_again k x =
    let e = length_bytes k x in
    ap (bytes_of k) (sym (number_bytes k x))
    ∙ bytes_back k (bytes_of k x) 0 (omega (arith, e)) (λ j m. bytes_below k x (0 + j))
    ∙ take_all k (bytes_of k x) (omega (arith, e))

-- ---- two numbers of k bytes for each t, over the front of a buffer
module _ (k : ℕ) (f g : ℕ → ℕ) where
  abbrev pair : ℕ → List ℕ
  pair t = bytes_of k (f t) ++ bytes_of k (g t)

  module _ (n : ℕ) (out : List ℕ) (room : (k + k) * n ≤ length out) (t : ℕ) (h : t < n) where
    pair_at : (j : ℕ) → j + k ≤ k + k → number_at k (over (gather n pair) out) ((k + k) * t + j) ≡ number_at k (pair t) j
    pair_at j m =
        let all = length_gather pair (k + k) (length_pair k f g) n in
        let past : (k + k) * suc t ≤ (k + k) * n = mul-le-mul_left (k + k) h in
        number_over k (gather n pair) out ((k + k) * t + j) (omega (arith, all)) (omega (arith, all, past, mul-suc (k + k) t))
        ∙ number_gather pair (k + k) (length_pair k f g) k n t j h m

    pub first_read : f t < 256 ^ k → number_at k (over (gather n pair) out) ((k + k) * t) ≡ f t
    first_read b =
        rw (add-zero ((k + k) * t)) at (pair_at 0 (omega arith))
        ∙ number_front k (bytes_of k (f t)) (bytes_of k (g t)) 0 (omega (arith, length_bytes k (f t)))
        ∙ number_back k (f t) b

    pub second_read : g t < 256 ^ k → number_at k (over (gather n pair) out) ((k + k) * t + k) ≡ g t
    second_read b =
        pair_at k (omega arith)
        ∙ rw (add-zero k) at (number_behind k (bytes_of k (f t)) (bytes_of k (g t)) k 0 (length_bytes k (f t)))
        ∙ number_back k (g t) b
