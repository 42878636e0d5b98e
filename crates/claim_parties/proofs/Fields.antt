-- The fields of a sheet of two, and of that with Carol put in.
-- Assumes nothing.
use Rattle.laws.proofs.Prelude.{ℕ, zero, suc, ◌+◌, ◌*◌, ◌<◌, ◌≡◌, refl, fun_ext, false, List, eqb, le-ltb, arith}
use lib.Seq.{get_or-drop}
use Rattle.sheet.specs.Field.{byte, parties, arrays, place, is_party, count, entry, lock_pair}
use Rattle.sheet.proofs.Parties.{parties_two, parties_three}
use Rattle.slots.specs.Destination.{carol}
use Rattle.claim_parties.specs.Claim.{with_carol}
use Rattle.claim_parties.proofs.Alike.{Alike}

module _ (s : List ℕ) (two : byte s 0 < 128) where
  pub two_parties : parties s ≡ 2
  two_parties = parties_two s two

  pub three_parties : parties (with_carol s) ≡ 3
  unfolding with_carol
  three_parties = parties_three (with_carol s) (omega arith)

  count_same : count (with_carol s) ≡ count s
  unfolding count with_carol
  count_same = omega arith

  -- the bytes behind the heads
  behind : (i : ℕ) → byte (with_carol s) (6 + i) ≡ byte s (5 + i)
  unfolding with_carol
  behind i =
      let e : 6 + i ≡ suc (suc (suc (suc (suc (suc i))))) = omega arith in
      rw e (get_or-drop 5 s i 0)

  entry_same : (t k : ℕ) → entry (with_carol s) t k ≡ entry s t k
  unfolding entry arrays
  entry_same t k =
      let a : 3 + 3 + 4 * t + k ≡ 6 + (4 * t + k) = omega arith in
      let b : 3 + 2 + 4 * t + k ≡ 5 + (4 * t + k) = omega arith in
      rw (three_parties, two_parties, a, b) (behind (4 * t + k))

  lock_same : (t k : ℕ) → lock_pair (with_carol s) t k ≡ lock_pair s t k
  unfolding lock_pair arrays
  lock_same t k =
      let n = count s in
      let a : 3 + 3 + 4 * n + 2 * t + k ≡ 6 + (4 * n + 2 * t + k) = omega arith in
      let b : 3 + 2 + 4 * n + 2 * t + k ≡ 5 + (4 * n + 2 * t + k) = omega arith in
      rw (three_parties, two_parties, count_same, a, b) (behind (4 * n + 2 * t + k))

  far : (a : ℕ) → place (suc (suc (suc (suc a)))) ≡ suc (suc (suc a))
  unfolding place
  far a = rw (le-ltb (suc (suc (suc (suc a)))) 2 (omega arith)) (omega arith)

  party_same : (a : ℕ) → eqb a carol ≡ false → is_party (with_carol s) a ≡ is_party s a
  unfolding is_party place
  party_same zero n = rw (three_parties, two_parties)
  party_same (suc zero) n = rw (three_parties, two_parties)
  party_same (suc (suc zero)) n = refl
  party_same (suc (suc (suc zero))) n = rw (three_parties, two_parties) n
  party_same (suc (suc (suc (suc a)))) n =
      rw (three_parties, two_parties, far a, le-ltb (suc (suc (suc a))) 3 (omega arith), le-ltb (suc (suc (suc a))) 2 (omega arith))

  pub alike : Alike s (with_carol s)
  unfolding with_carol
  alike =
      record {
        transactions =
            record {
              counts = count_same;
              signatures_same = refl;
              secrets_same = refl;
              parents = λ t. entry_same t 0;
              needs = λ t. entry_same t 2;
              veils = λ t. entry_same t 3;
              locks = fun_ext (λ t. fun_ext (λ k. lock_same t k));
            };
        entries = fun_ext (λ t. fun_ext (λ k. entry_same t k));
        parties_same = party_same;
      }
