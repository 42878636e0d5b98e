-- What a party X can count on while it takes no step up to a height. The words in quotes are those of docs/DECISIONS.md, "Slack".
-- Assumes nothing.
use Rattle.std.specs.Prelude.{ℕ, zero, suc, ◌+◌, Bool, not, ◌&&◌, ◌||◌, List, eqb}
use Rattle.std.specs.Int.Bits.{bit_or}
use Rattle.laws.specs.Below.{all_below, any_below}
use Rattle.laws.specs.Greatest.{greatest_to}
use Rattle.laws.specs.Mask.{bit}
use Rattle.laws.specs.Sets.{set_below}
use Rattle.sheet.specs.Field.{count, parent, opening}
use Rattle.sheet.specs.LockHeight.{never}
use Rattle.ledger.specs.Coin.{coin_of}
use Rattle.slots.specs.Destination.{is_payee, is_contract}
use Rattle.slots.specs.Ancestry.{is_self_or_ancestor}
use Rattle.position.specs.declared.Position.{Position}
use Rattle.position.specs.Position.{is_confirmed, confirmed_to, keys}
use Rattle.attainable.specs.Attainable.{secrets_of, known_from}
use Rattle.slack.specs.Beaten.{above, fixed, stands, beats, can_come_elsewhere, last}

-- "know being X's keys, the shared secrets and sec of above(t)"
unfoldable pub known_at : List ℕ → Position → ℕ → ℕ → ℕ
known_at s p x t = bit_or (keys p x) (known_from s p (above s p t))

-- "beat(t; know, U, off) empty and not failing"
unfoldable pub unbeaten : List ℕ → List ℕ → Position → ℕ → ℕ → ℕ → ℕ → ℕ → Bool
unbeaten s u p x know also off t = stands s u p x know off t && not (any_below (count s) (beats s u p x also off t))

-- "line(t; know, U, off): t pays X; each unconfirmed w of its line has beat(w; know, U, off) empty and not failing."
unfoldable pub free : List ℕ → List ℕ → Position → ℕ → ℕ → ℕ → ℕ → ℕ → Bool
free s u p x know also off t =
    is_payee s t x
    && (not (is_confirmed p t)
    && all_below (count s) (λ w. not (is_self_or_ancestor s w t) || (is_confirmed p w || unbeaten s u p x know also off w)))

-- "r pays, and is not in can'(above(t)) (it can come for X only)"
unfoldable pub comes_for_party : List ℕ → List ℕ → Position → ℕ → ℕ → ℕ → Bool
comes_for_party s u p x t r = not (is_contract s r) && not (bit (can_come_elsewhere s u p x 0 t) r)

-- "has a good child", where a set tells the good ones
unfoldable pub good_child : List ℕ → ℕ → ℕ → Bool
good_child s good r = any_below (count s) (λ c. not (opening s c) && (eqb (parent s c) r && bit good c))

-- "or line(w; know ∪ sec(r), above(t), last) for a w of another coin"
unfoldable pub elsewhere_free : List ℕ → List ℕ → Position → ℕ → ℕ → ℕ → ℕ → Bool
elsewhere_free s u p x off t r =
    let know = known_at s p x t in
    any_below (count s) (λ w. not (eqb (coin_of s w) (coin_of s t)) && free s u p x (bit_or know (secrets_of s r)) (above s p t) (last s u p x know off t) w)

-- "each r in it is answered: r is not t, pays, and is not in can'(above(t)); or r is not t and has a good child; or line(..)"
unfoldable pub answered : List ℕ → List ℕ → Position → ℕ → ℕ → ℕ → ℕ → ℕ → Bool
answered s u p x off good t r =
    (not (eqb r t) && (comes_for_party s u p x t r || good_child s good r)) || elsewhere_free s u p x off t r

-- "good(t): t pays or has a good child; beat(t; know, {}, b) does not fail ..; and each r in it is answered", where a set tells the good ones so far
unfoldable pub good_by : List ℕ → List ℕ → Position → ℕ → ℕ → ℕ → ℕ → Bool
good_by s u p x off good t =
    (not (is_contract s t) || good_child s good t)
    && (stands s u p x (known_at s p x t) off t
    && all_below (count s) (λ r. not (beats s u p x 0 off t r) || answered s u p x off good t r))

-- the empty set, so many times replaced by those that are good by it: each time one generation more, "from the sheet's end"
unfoldable pub good_rounds : List ℕ → List ℕ → Position → ℕ → ℕ → ℕ → ℕ
good_rounds s u p x off zero = 0
good_rounds s u p x off (suc n) = set_below (count s) (good_by s u p x off (good_rounds s u p x off n))

-- "What X can count on", as a set
unfoldable pub good : List ℕ → List ℕ → Position → ℕ → ℕ → ℕ
good s u p x off = good_rounds s u p x off (count s)

-- "a confirmed transaction pays X"
unfoldable pub paid : List ℕ → Position → ℕ → Bool
paid s p x = any_below (count s) (λ t. is_confirmed p t && eqb (confirmed_to p t) x)

-- "good(t) for an opening t or one whose parent is confirmed"
unfoldable pub reached : List ℕ → List ℕ → Position → ℕ → ℕ → ℕ → Bool
reached s u p x off t = fixed s p t && bit (good s u p x off) t

-- kept up to a height: "a confirmed transaction pays X, or good(t) for an opening t or one whose parent is confirmed"
unfoldable pub kept_to : List ℕ → List ℕ → Position → ℕ → ℕ → Bool
kept_to s u p x off = paid s p x || any_below (count s) (reached s u p x off)

-- "kept(k)", "k blocks of outage, b = m + k"
unfoldable pub kept : List ℕ → List ℕ → Position → ℕ → ℕ → Bool
kept s u p x k = kept_to s u p x (p.mined + k)

-- "10,000"
abbrev pub longest : ℕ
longest = 10000

-- "the greatest k ≤ 10,000 with kept(k)", as the position stands; never where there is none
unfoldable pub kept_for : List ℕ → List ℕ → Position → ℕ → ℕ
kept_for s u p x = greatest_to longest (kept s u p x) never
