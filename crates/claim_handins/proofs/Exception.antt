-- The exception comes to this: there are two journals to positions that differ in the block alone, after which Bob has other open steps of
-- kind 3, and one of these steps other numbers. So the claim would be false of careful conduct with stealth. And where its words are false.
-- Assumes nothing.
use Rattle.laws.proofs.Prelude.{ℕ, ◌≡◌, refl, sym, ap, ◌∙◌, true, false, false≢true, List, [], ◌∷◌, ◌++◌, inl, inr, length, arith, flat_map}
use Rattle.position.proofs.Rules.{accepted, saswap, bob, success, step_bytes, in_pool, run, open_of}
use Rattle.position.specs.declared.Position.{Position}
use Rattle.position.proofs.Opened.{opened}
use Rattle.dated.specs.Dated.{first_open, noted, unseen, dated_start, dated_step, dated_run_from, dated_run}
use Rattle.dated.specs.Opens.{at_hand, opens}
use Rattle.claim_handins.specs.Claim.{emptied, BlockApart, DatedApart, Unwatched}
use Rattle.claim_handins.specs.Excepted.{careful3, waiting, handed_in, after, send_success}
use Rattle.claim_handins.proofs.Theorems.{careful_excepted}

-- before success is handed in, Bob may send it to the pool
sent_first : (dated_step (saswap 3) careful3 (after waiting) send_success).refusal ≡ accepted
unfolding opened dated_run dated_run_from dated_step dated_start noted first_open opens at_hand unseen
sent_first = refl

pub exception_seen : (j k : List ℕ) × ((dated_run (saswap 3) careful3 k).refusal ≡ accepted) × DatedApart (after j) (after k)
    × (open_of (saswap 3) careful3 (after j).position bob 3 ≡ open_of (saswap 3) careful3 (after k).position bob 3 → ⊥)
    × ((dated_step (saswap 3) careful3 (after j) send_success).refusal ≡ (dated_step (saswap 3) careful3 (after k) send_success).refusal → ⊥)
exception_seen =
    let x = careful_excepted in (
      waiting,
      handed_in,
      x.runs,
      x.apart,
      λ e.
          let z = ap (length {A = ℕ}) (sym x.open_first ∙ ap (flat_map step_bytes) e ∙ x.open_then) in
          omega (arith, z),
      λ e. let z = sym sent_first ∙ e ∙ x.refused_then in omega (arith, z),
    )

-- the words of the claim where they are false: a pool entry is more than a difference in the block; careful conduct with stealth is watched
pub pool_apart : BlockApart (run (saswap 3) careful3 waiting).position (run (saswap 3) careful3 (waiting ++ (3 ∷ 1 ∷ 2 ∷ 2 ∷ []))).position → ⊥
unfolding opened emptied
pool_apart e = let z : false ≡ true = ap (λ (p : Position). in_pool p success) e in false≢true z

pub watched : Unwatched careful3 → ⊥
unfolding opened
watched (inl l) = omega (arith, l)
watched (inr e) = let z : ◌≡◌ {A = ℕ} 1 0 = e in omega (arith, z)
