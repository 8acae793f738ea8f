-- `restored_host` is `restored_host`: the restored queues under the host's own settings.
use Rattle.restore.proofs.restored_host.Goals as goal

pub returns : goal.returns
returns c =
    rw c.restored_queues.ensures
