-- A slot without an entry is not changed by taking the entry out.
-- Assumes nothing.
use Rattle.laws.proofs.Prelude.{◌≡◌, refl, ap, Bool, true, false, pick}
use Rattle.slots.specs.declared.Slot.{Slot}
use Rattle.slots.specs.Slot.{with_pool, with_block}

pub pool_out : (b : Bool) (x : Slot) → x.pool ≡ 0 → x ≡ pick b (with_pool 0 x) x
unfolding with_pool
pool_out true x e = ap (λ n. with_pool n x) e
pool_out false x e = refl

pub block_out : (b : Bool) (x : Slot) → x.block ≡ 0 → x ≡ pick b (with_block 0 x) x
unfolding with_block
block_out true x e = ap (λ n. with_block n x) e
block_out false x e = refl
