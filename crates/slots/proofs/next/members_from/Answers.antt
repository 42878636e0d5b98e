-- The members, without those from n on, and without those before.
use Rattle.laws.proofs.Prelude.{◌^◌, ◌%◌, ◌*◌, ◌≡◌, ◌∙◌, ℕ, ◌≤◌, arith, one-mul}
use Rattle.slots.proofs.Members.{between_masks}
use lib.Pow.{shl_exact}
use Rattle.slots.proofs.next.members_from.Goals as goal

exact : (n : ℕ) → n ≤ 32 → 1 * 2 ^ n % 18446744073709551616 ≡ 2 ^ n
exact n l = shl_exact {a = 1} 1 n 64 (omega arith) (omega (arith, l)) ∙ one-mul _

pub returns : goal.returns
returns c = rw (exact _ c.requires.n_bound, exact _ c.requires.from_bound) (between_masks _ _ _ c.requires.from_bound c.requires.n_bound)
