-- The keys of the parties below k.
use Rattle.laws.proofs.Prelude.{◌≡◌, eqb, pick, union_below}
use Rattle.position.proofs.Rules.{party_at, keys_in}
use Rattle.attainable.proofs.read.others_keys.Given as goal

abbrev pub invariant-loop-k : goal.invariant-loop-k
invariant-loop-k l =
    l.found ≡ union_below l.k (λ j. pick (eqb (party_at j) l.party) 0 (keys_in l.view (party_at j)))
