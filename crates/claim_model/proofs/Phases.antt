-- Exactly one phase, and it is document 01's where both first shares are made exactly if they are shared.
-- Assumes nothing.
use Rattle.laws.proofs.Prelude.{◌≡◌, ◌∙◌, true, false, get_or, split}
use Rattle.position.proofs.Rules.{lock_a, lock_b, is_confirmed, phase}
use Rattle.position.specs.declared.Position.{Position}
use Rattle.claim_model.specs.Words.{both_shared, phases, cardinality}
use Rattle.claim_model.proofs.FirstPhases.{both_made}

pub one_phase : (p : Position) → cardinality (phases p) ≡ 1
unfolding phases cardinality
one_phase p =
    split (is_confirmed p lock_b)
    (λ x.
    split (is_confirmed p lock_a)
    (λ y. split (both_shared p) (λ z. rw (x, y, z)) (λ z. rw (x, y, z)))
    (λ y. split (both_shared p) (λ z. rw (x, y, z)) (λ z. rw (x, y, z))))
    (λ x.
    split (is_confirmed p lock_a)
    (λ y. split (both_shared p) (λ z. rw (x, y, z)) (λ z. rw (x, y, z)))
    (λ y. split (both_shared p) (λ z. rw (x, y, z)) (λ z. rw (x, y, z))))

pub phase_is : (p : Position) → both_made p ≡ both_shared p → get_or (phases p) (phase p) false ≡ true
unfolding phases phase
phase_is p e =
    split (is_confirmed p lock_b)
    (λ x. rw x)
    (λ x.
    split (is_confirmed p lock_a)
    (λ y. rw (x, y))
    (λ y.
    split (both_shared p)
    (λ z. let m : both_made p ≡ true = e ∙ z in rw (x, y, z, m))
    (λ z. let m : both_made p ≡ false = e ∙ z in rw (x, y, z, m))))
