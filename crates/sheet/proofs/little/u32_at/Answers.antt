-- Two halves of two bytes, the lower first.
use Rattle.std.specs.Prelude.{ℕ, ◌+◌, ◌*◌, ◌≡◌, List, get_or}
use Rattle.laws.proofs.Prelude.{refl, ap, arith}
use Rattle.laws.specs.Little.{number_at, number_two, number_halves}
use Rattle.sheet.proofs.little.u32_at.Goals as goal

four : (l : List ℕ) (i : ℕ) → get_or l i 0 + get_or l (i + 1) 0 * 256 + get_or l (i + 2) 0 * 65536 + get_or l (i + 3) 0 * 16777216 ≡ number_at 4 l i
four l i =
    let next : i + 3 ≡ i + 2 + 1 = omega arith in
    let low = number_two l i _ _ refl refl in
    let high = number_two l (i + 2) (get_or l (i + 2) 0) (get_or l (i + 3) 0) refl (ap (λ j. get_or l j 0) next) in
    let halves : number_at 4 l i ≡ number_at 2 l i + 65536 * number_at 2 l (i + 2) = number_halves 2 2 l i in
    omega (arith, low, high, halves)

pub returns : goal.returns
returns c = rw c.from_le_bytes.ensures (four _ _)
