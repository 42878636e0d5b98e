-- Field by field.
use Rattle.attainable.proofs.Reading.{read_waits, read_sends, read_confirmed, read_gone, read_secrets, read_lacks}
use Rattle.attainable.proofs.read.read.Goals as goal

pub view-view-requires : goal.view-view-requires
view-view-requires c = c.requires.checked

pub conflicts_of-conflicted-requires : goal.conflicts_of-conflicted-requires
conflicts_of-conflicted-requires c = c.requires.checked

pub unsent-unsent-requires : goal.unsent-unsent-requires
unsent-unsent-requires c = c.requires

pub lacks-requires : goal.lacks-requires
lacks-requires c = c.requires.checked

pub lacks-requires-2 : goal.lacks-requires-2
lacks-requires-2 c = c.requires.checked

pub lacks-requires-3 : goal.lacks-requires-3
lacks-requires-3 c = c.requires.checked

pub lacks-requires-4 : goal.lacks-requires-4
lacks-requires-4 c = c.requires.checked

pub returns : goal.returns
returns c =
    record {
      confirmed = read_confirmed _ _ c.requires.checked _ c.view-view.ensures;
      gone = read_gone _ _ c.requires.checked _ c.view-view.ensures _ _ c.conflicts_of-conflicted.ensures c.gone.ensures;
      secrets = read_secrets _ _ c.requires.checked _ c.view-view.ensures _ c.secrets.ensures;
      waits = read_waits _ _ _ _ c.waits.ensures;
      waits_elsewhere = read_waits _ _ _ _ c.waits-2.ensures;
      sends = read_sends _ _ _ _ c.sends.ensures;
      sends_elsewhere = read_sends _ _ _ _ c.sends-2.ensures;
      shows = c.shows.ensures;
      alice = read_lacks _ _ c.requires.checked _ c.view-view.ensures _ _ _ _ _ _ _ c.unsent-unsent.ensures c.others_keys.ensures c.secrets.ensures c.lacks.ensures;
      bob = read_lacks _ _ c.requires.checked _ c.view-view.ensures _ _ _ _ _ _ _ c.unsent-unsent.ensures c.others_keys.ensures c.secrets.ensures c.lacks-2.ensures;
      contract = read_lacks _ _ c.requires.checked _ c.view-view.ensures _ _ _ _ _ _ _ c.unsent-unsent.ensures c.others_keys.ensures c.secrets.ensures c.lacks-3.ensures;
      carol = read_lacks _ _ c.requires.checked _ c.view-view.ensures _ _ _ _ _ _ _ c.unsent-unsent.ensures c.others_keys.ensures c.secrets.ensures c.lacks-4.ensures;
    }
