-- The set at each place.
use Rattle.std.proofs.Common.{rules, tests}
use Rattle.std.proofs.lemmas.List.{ext_get_or}
use Rattle.laws.specs.Calls.{TableOf}
use Rattle.laws.proofs.Prelude.{rewrite_first, rewritten, length_rewrite_first, ℕ, ◌<◌, ◌≡◌, sym, ◌∙◌, List, length, replicate, arith}
use lib.ListN.{length-replicate}
use Rattle.queries.specs.Forms.OpenSets.{below_sets}
use Rattle.queries.proofs.open.below_sets.Goals as goal

-- a full table is a list rewritten at each place
table_rewritten : (answers : ℕ → ℕ → Type 0) (n : ℕ) (f : ℕ → ℕ) (table : List ℕ) → TableOf answers n n 0 table → ((k v : ℕ) → k < n → answers k v → v ≡ f k) → table ≡ rewrite_first n (λ k x. f k) (replicate n 0)
table_rewritten answers n f table h e =
    ext_get_or 0 table (rewrite_first n (λ k x. f k) (replicate n 0)) (h.size ∙ sym (length_rewrite_first n (λ k x. f k) (replicate n 0) ∙ length-replicate {A = ℕ} n 0))
    (λ k l.
    let m : k < n = omega (arith, l, h.size) in
    let o : k < length (replicate n 0) = omega (arith, m, length-replicate {A = ℕ} n 0) in
    e k _ m (h.each k m) ∙ sym (rewritten n (λ k x. f k) (replicate n 0) k 0 m o))

pub returns : goal.returns
unfolding below_sets
returns c = table_rewritten _ _ _ _ c.filled.ensures (λ k v l e. search (rules, tests))
