-- The steps of any bytes, group by group of four: the next one, and none where fewer than four bytes are left.
-- Assumes nothing.
use Rattle.laws.proofs.Prelude.{ℕ, suc, ◌+◌, ◌-◌, ◌*◌, ◌≤◌, ◌<◌, ◌≡◌, refl, ap, ◌∙◌, List, [], ◌∷◌, ◌++◌, length, take, drop, length-drop, arith}
use Rattle.position.proofs.Rules.{byte, FourBytes, journal_steps, journal_bytes, step_at}
use lib.Seq.{drop-cons}

-- one byte in front, and four
one_byte : (j : List ℕ) (i k : ℕ) → i < length j → k ≡ suc i → drop i j ≡ byte j i ∷ drop k j
one_byte j i k h e = rw e (drop-cons j i 0 h)

pub four_bytes : (j : List ℕ) (i : ℕ) → i + 4 ≤ length j → drop i j ≡ byte j i ∷ byte j (i + 1) ∷ byte j (i + 2) ∷ byte j (i + 3) ∷ drop (i + 4) j
four_bytes j i h =
    one_byte j i (i + 1) (omega arith) (omega arith)
    ∙ ap (λ r. byte j i ∷ r) (one_byte j (i + 1) (i + 2) (omega arith) (omega arith))
    ∙ ap (λ r. byte j i ∷ byte j (i + 1) ∷ r) (one_byte j (i + 2) (i + 3) (omega arith) (omega arith))
    ∙ ap (λ r. byte j i ∷ byte j (i + 1) ∷ byte j (i + 2) ∷ r) (one_byte j (i + 3) (i + 4) (omega arith) (omega arith))

few_bytes : (l : List ℕ) → length l < 4 → journal_steps l ≡ []
unfolding journal_steps
few_bytes [] h = refl
few_bytes (k ∷ []) h = refl
few_bytes (k ∷ a ∷ []) h = refl
few_bytes (k ∷ a ∷ t ∷ []) h = refl
few_bytes (k ∷ a ∷ t ∷ d ∷ l) h = absurd (omega arith)

-- the bytes of a row of steps, and of no step
pub bytes_append : (x y : List FourBytes) → journal_bytes (x ++ y) ≡ journal_bytes x ++ journal_bytes y
unfolding journal_bytes
bytes_append [] y = refl
bytes_append (b ∷ x) y = ap (λ r. b.kind ∷ b.party ∷ b.transaction ∷ b.destination ∷ r) (bytes_append x y)

pub no_bytes : journal_bytes [] ≡ []
unfolding journal_bytes
no_bytes = refl

-- the groups from number k on
unfoldable pub groups_from : List ℕ → ℕ → List FourBytes
groups_from j k = journal_steps (drop (4 * k) j)

pub groups_all : (j : List ℕ) → groups_from j 0 ≡ journal_steps j
unfolding groups_from
groups_all j = refl

pub groups_next : (j : List ℕ) (k : ℕ) → 4 * k + 4 ≤ length j → groups_from j k ≡ step_at j (4 * k) ∷ groups_from j (k + 1)
unfolding groups_from journal_steps step_at
groups_next j k h = let e : 4 * k + 4 ≡ 4 * (k + 1) = omega arith in rw (four_bytes j (4 * k) h, e)

pub groups_none : (j : List ℕ) (k : ℕ) → length j < 4 * k + 4 → groups_from j k ≡ []
unfolding groups_from
groups_none j k h = few_bytes (drop (4 * k) j) (omega (arith, length-drop (4 * k) j))

-- the part of one step
four : (i k : ℕ) → k ≡ i + 4 → k - i ≡ 4
four i k e = omega (arith, e)

pub part_step : (j : List ℕ) (i k : ℕ) → i + 4 ≤ length j → k ≡ i + 4 → journal_steps (take (k - i) (drop i j)) ≡ step_at j i ∷ []
unfolding journal_steps step_at
part_step j i k h e = rw (four i k e, four_bytes j i h)
