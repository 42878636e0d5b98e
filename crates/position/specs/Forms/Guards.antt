-- The guards of a position: what conduct reads off it.
-- Assumes nothing.
use Rattle.std.specs.Prelude.{true, false, List, ℕ}
use Rattle.laws.specs.Booleans.{pick}
use Rattle.slots.specs.Destination.{alice, bob, contract}
use Rattle.steps.specs.declared.Guards.{Guards}
use Rattle.steps.specs.Names.{secret_bob, success, refund1}
use Rattle.position.specs.declared.Position.{Position}
use Rattle.position.specs.Position.{sent, holds, sender_has}
use Rattle.position.specs.Conduct.{is_open, is_careful, phase, late, success_unshared}

-- open conduct: nothing is asked for
unfoldable pub open_guards : Guards
open_guards =
    record { free = true; careful = false; phase = 0; late = false; refund = false; unshared = false; knows = false; bob_has = 0 }

-- loose and careful conduct
unfoldable pub guards : List ℕ → List ℕ → Position → Guards
guards s u p =
    pick (is_open u)
    open_guards
    (record {
      free = false;
      careful = is_careful u;
      phase = phase p;
      late = late s u p;
      refund = sent p refund1;
      unshared = success_unshared p;
      knows = holds p alice secret_bob;
      bob_has = sender_has s p bob success contract;
    })

-- what of it sends ask for
unfoldable pub send_guards : List ℕ → Position → Guards
send_guards u p =
    record {
      free = is_open u;
      careful = is_careful u;
      phase = phase p;
      late = false;
      refund = false;
      unshared = success_unshared p;
      knows = holds p alice secret_bob;
      bob_has = 0;
    }
