use Rattle.yd_hub.proofs.HubLemmas.{all_is_hub}
use Rattle.yd_hub.proofs.OrderLemmas.{hub_orders}
use Rattle.yd_hub.proofs.law.hub_stays.Goals as goal

pub returns : goal.returns
returns c = record { is_hub = all_is_hub; orders = hub_orders }
