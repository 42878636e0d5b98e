-- The refusal of any step over what is the same for all steps of an actor, the slot x of the step's transaction and `since`, its parent's block.
-- Assumes nothing.
use Rattle.std.specs.Prelude.{ℕ, Bool, true, false, not, ◌&&◌, ◌||◌, List, eqb, leb, Option, Some, None}
use Rattle.std.specs.Int.Bits.{bit_and}
use Rattle.laws.specs.Booleans.{pick}
use Rattle.laws.specs.Failing.{first_failing}
use Rattle.laws.specs.Mask.{bit}
use Rattle.laws.specs.Sets.{joined, set_below}
use Rattle.sheet.specs.Refusal.{accepted}
use Rattle.sheet.specs.Field.{count, signatures}
use Rattle.sheet.specs.Setup.{per_day, conduct, stealth}
use Rattle.slots.specs.declared.Slot.{Slot}
use Rattle.slots.specs.declared.Step.{Step}
use Rattle.slots.specs.declared.Step.TheVariants.{Share, Give, SendToPool, HandToMiner, Include, Mine, Bump}
use Rattle.slots.specs.Destination.{alice, bob, carol, miner, contract, place_of, destination_number, is_party, is_payee, is_contract}
use Rattle.readings.specs.declared.Context.{Context}
use Rattle.readings.specs.declared.DestinationSets.{DestinationSets}
use Rattle.steps.specs.declared.Guards.{Guards}
use Rattle.steps.specs.Decode.{no_transaction, is_other}
use Rattle.steps.specs.Tests.{conduct_rule, share_new_rule, give_met_rule, bump_rule}
use Rattle.steps.specs.Forms.View.{keys_in}
use Rattle.steps.specs.Forms.Conduct.{share_allowed_in, give_allowed_in, send_held_in}
use Rattle.steps.specs.Forms.Sharing.{share_met_in}
use Rattle.steps.specs.Forms.Sending.{pool_tests_in, miner_tests_in}
use Rattle.steps.specs.Forms.Mining.{owed_in, include_tests_in, mine_tests_in}

-- a share is new and not empty; of the first shares, 255: they are new
unfoldable pub share_new_in : List ℕ → Context → Slot → ℕ → ℕ → ℕ → Bool
unfolding share_new_rule
share_new_in s g x party t destination = share_new_rule t g.made (share_met_in s (keys_in g.view party) x party t destination)

-- the first test that fails, by the kind
unfoldable pub refusal_in : List ℕ → List ℕ → Context → Slot → ℕ → Step → ℕ
refusal_in s u g x since (Share party t to) =
    first_failing (conduct_rule (share_allowed_in g.guards party t) (share_new_in s g x party t (destination_number to)))
refusal_in s u g x since (Give party i to) =
    first_failing (conduct_rule (give_allowed_in g.guards party i) (give_met_rule (bit (keys_in g.view party) i) (bit (keys_in g.view (destination_number to)) i)))
refusal_in s u g x since (SendToPool party t to) =
    first_failing (pool_tests_in (send_held_in s g.guards g.paying party t) s u g.view x since party t (destination_number to))
refusal_in s u g x since (HandToMiner party t to) =
    first_failing (miner_tests_in (send_held_in s g.guards g.paying party t) s u g.view x since party t (destination_number to))
refusal_in s u g x since (Include party t to) = first_failing (include_tests_in s g.view g.owed t)
refusal_in s u g x since (Mine party t to) = first_failing (mine_tests_in g.view g.owed)
refusal_in s u g x since (Bump party t to) = first_failing (bump_rule (owed_in s (per_day u) g.view since t))

-- what four bytes decoded to is a step that is accepted
unfoldable pub is_open_in : List ℕ → List ℕ → Context → Slot → ℕ → Option Step → Bool
is_open_in s u g x since (Some y) = eqb (refusal_in s u g x since y) accepted
is_open_in s u g x since None = false

-- ---- the same by numbers, for a transaction of the sheet

-- a party's step of this kind may go to this destination
unfoldable pub party_may : List ℕ → ℕ → ℕ → ℕ → Bool
party_may s kind actor destination =
    pick (eqb kind 1) true
    (pick (eqb kind 2) (is_other s actor destination)
    ((eqb kind 3 || eqb kind 4) && (eqb destination contract || eqb destination actor)))

-- some step of this kind, actor and destination may have right fields with a transaction byte other than 255
unfoldable pub may_stand : List ℕ → ℕ → ℕ → ℕ → Bool
may_stand s kind actor destination =
    pick (is_party s actor) (party_may s kind actor destination) (eqb actor miner && ((eqb kind 5 || eqb kind 7) && eqb destination contract))

-- a contract transaction goes to the contract, a paying one to its payees
unfoldable pub goes_to : List ℕ → ℕ → ℕ → Bool
goes_to s t destination = pick (eqb destination contract) (is_contract s t) (is_payee s t destination)

-- the first test of a kind other than 2 and 6 that fails
unfoldable pub refusal_as : List ℕ → List ℕ → Context → Slot → ℕ → ℕ → ℕ → ℕ → ℕ → ℕ
refusal_as s u g x since kind actor t d =
    pick (eqb kind 1) (first_failing (conduct_rule (share_allowed_in g.guards actor t) (share_met_in s (keys_in g.view actor) x actor t d)))
    (pick (eqb kind 3) (first_failing (pool_tests_in (send_held_in s g.guards g.paying actor t) s u g.view x since actor t d))
    (pick (eqb kind 4) (first_failing (miner_tests_in (send_held_in s g.guards g.paying actor t) s u g.view x since actor t d))
    (pick (eqb kind 5) (first_failing (include_tests_in s g.view g.owed t))
    (first_failing (bump_rule (owed_in s (per_day u) g.view since t))))))

-- ---- the transactions that are tested, as sets

-- those that go to a destination
unfoldable pub goes_set : List ℕ → ℕ → ℕ
goes_set s d = set_below (count s) (λ t. goes_to s t d)

-- by destination, for a party
unfoldable pub destination_sets : List ℕ → ℕ → DestinationSets
destination_sets s actor =
    pick (is_party s actor)
    (record { alice = goes_set s alice; bob = goes_set s bob; carol = goes_set s carol; contract = goes_set s contract })
    (record { alice = 0; bob = 0; carol = 0; contract = 0 })

unfoldable pub destination_set : DestinationSets → ℕ → ℕ
destination_set w d = pick (eqb d alice) w.alice (pick (eqb d bob) w.bob (pick (eqb d carol) w.carol w.contract))

-- all of 32
abbrev pub full : ℕ
full = 4294967295

-- those that conduct may let a party share: but for open conduct success, bit 2, by Alice
unfoldable pub sharers : Guards → ℕ → ℕ
sharers o actor = pick o.free full (pick (eqb o.phase 3 && eqb actor alice) 4 0)

-- those that it may let a party send: none in phase 0
unfoldable pub senders : Guards → ℕ
senders o = pick o.free full (pick (eqb o.phase 0) 0 full)

-- those that a kind's tests may pass, whatever the destination
unfoldable pub turns_in : List ℕ → Context → ℕ → ℕ → ℕ
turns_in u g kind actor =
    pick (eqb kind 1) (sharers g.guards actor)
    (pick (eqb kind 3) (senders g.guards)
    (pick (eqb kind 4) (pick (eqb (stealth u) 1) (senders g.guards) 0)
    g.view.pool))

-- of kinds 1, 3 and 4 those that go to the destination
unfoldable pub candidates_in : List ℕ → Context → DestinationSets → ℕ → ℕ → ℕ → ℕ
candidates_in u g w kind actor d = pick (leb 5 kind) (turns_in u g kind actor) (bit_and (destination_set w d) (turns_in u g kind actor))

-- kind 2: a give that is accepted
unfoldable pub gives_in : Context → ℕ → ℕ → ℕ → Bool
gives_in g actor i d =
    eqb (first_failing (conduct_rule (give_allowed_in g.guards actor i) (give_met_rule (bit (keys_in g.view actor) i) (bit (keys_in g.view d) i)))) accepted

-- kind 1 with transaction byte 255: first shares that are accepted
unfoldable pub shares_first : List ℕ → Context → ℕ → Bool
shares_first u g actor =
    not (eqb (conduct u) 0)
    && eqb (first_failing (conduct_rule (share_allowed_in g.guards actor no_transaction) (not g.made))) accepted

-- kind 6: a block that may be mined
unfoldable pub mines_in : Context → ℕ → Bool
mines_in g actor = eqb actor miner && eqb (first_failing (mine_tests_in g.view g.owed)) accepted

-- the places of the steps with transaction byte 255: the first shares, and kind 6
unfoldable pub last_in : List ℕ → List ℕ → Context → ℕ → ℕ
last_in s u g actor =
    pick (is_party s actor) (joined 0 (shares_first u g actor) (place_of 0 contract)) (joined 0 (mines_in g actor) (place_of 5 contract))

-- the transaction bytes other than 255 that a kind's steps may have are below this
unfoldable pub limit : List ℕ → ℕ → ℕ
limit s kind = pick (eqb kind 2) (signatures s) (count s)
