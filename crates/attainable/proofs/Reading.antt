-- What is read is what the record says.
-- Assumes nothing.
use Rattle.laws.proofs.Prelude.{ℕ, ◌<◌, ◌≡◌, ◌∙◌, true, ◌||◌, List, eqb, bit_and, bit_or, pick, bit, union_below, set_below, set_bit, set_same}
use Rattle.position.proofs.Rules.{parties, party_at, count, secrets, Checked, shared_for, shared_any, shared_secrets, found_in, View, keys_in, dead_in, slot}
use Rattle.position.specs.declared.Position.{Position}
use Rattle.position.proofs.Rules.{is_confirmed, shared, keys, view_below}
use Rattle.position.proofs.BlockSets.{set_dead}
use Rattle.soonest.specs.Forms.Table.{Filled}
use Rattle.attainable.specs.Attainable.{gone, other_keys, others_keys, never_sent}
use Rattle.attainable.specs.Forms.Others.{waits_apart, sends_apart, Lacks, others_for, OthersLack, waits_in, sends_in}
use Rattle.attainable.proofs.Ways.{waits_apart_lem, sends_apart_lem}

pub read_waits : (s : List ℕ) (p : Position) (off r : ℕ) → r ≡ set_below (count s) (λ t. waits_in (slot p t) off) → r ≡ set_below (count s) (waits_apart p off)
read_waits s p off r e = e ∙ set_same (count s) (λ t. waits_in (slot p t) off) (waits_apart p off) (λ t l. waits_apart_lem p off t)

pub read_sends : (s : List ℕ) (x off r : ℕ) → r ≡ set_below (count s) (sends_in s x off) → r ≡ set_below (count s) (sends_apart s x off)
read_sends s x off r e = e ∙ set_same (count s) (sends_in s x off) (sends_apart s x off) (λ t l. sends_apart_lem s x off t)

-- over the view of the position
module _ (s : List ℕ) (p : Position) (ok : Checked s) (v : View) (seen : v ≡ view_below s (count s) p) where
  pub read_confirmed : v.confirmed ≡ set_below (count s) (is_confirmed p)
  unfolding view_below
  read_confirmed = rw seen

  confirmed_bit : (k : ℕ) → k < count s → bit v.confirmed k ≡ is_confirmed p k
  confirmed_bit k l = rw read_confirmed (set_bit (count s) (is_confirmed p) ok.sized.few k l)

  pub read_gone : (conflicted r : ℕ) → conflicted ≡ set_below (count s) (found_in s (bit v.confirmed) true)
      → r ≡ set_below (count s) (λ t. bit v.confirmed t || dead_in s v.confirmed conflicted t) → r ≡ set_below (count s) (gone s p)
  unfolding gone
  read_gone conflicted r e f =
      f
      ∙ set_same (count s) (λ t. bit v.confirmed t || dead_in s v.confirmed conflicted t) (gone s p)
      (λ t l. rw (e, set_dead s v.confirmed (is_confirmed p) t ok.sized.few l confirmed_bit, confirmed_bit t l))

  pub read_secrets : (a : ℕ) → a ≡ secrets s → bit_and a v.shared ≡ shared_secrets s (λ k. shared_any (slot p k))
  unfolding shared_secrets view_below
  read_secrets a e = rw (e, seen)

  read_keys : (x r : ℕ) → r ≡ union_below (parties s) (λ k. pick (eqb (party_at k) x) 0 (keys_in v (party_at k))) → r ≡ others_keys s p x
  unfolding others_keys other_keys keys keys_in view_below
  read_keys x r e = rw (e, seen)

  pub read_lacks : (u : List ℕ) (x unsent held a d : ℕ) (table : List ℕ) → unsent ≡ set_below (count s) (never_sent s u p x)
      → held ≡ union_below (parties s) (λ k. pick (eqb (party_at k) x) 0 (keys_in v (party_at k))) → a ≡ secrets s
      → Filled (λ t w. Lacks s (bit unsent t) x (bit_or (bit_or held (bit_and a v.shared)) (shared_for (slot p t) d)) d t w) (count s) table
      → Filled (λ t w. OthersLack s u p x d t w) (count s) table
  unfolding others_for shared
  read_lacks u x unsent held a d table e h f k =
      record {
        size = k.size;
        each = λ t l.
            let never : bit unsent t ≡ never_sent s u p x t = rw e (set_bit (count s) (never_sent s u p x) ok.sized.few t l) in
            rw (← never, ← (read_keys x held h), ← (read_secrets a f)) (k.each t l);
      }
