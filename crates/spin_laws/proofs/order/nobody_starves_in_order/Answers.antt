use Rattle.spin_laws.proofs.Served.{nobody_starves}
use Rattle.spin_laws.proofs.order.nobody_starves_in_order.Goals as goal

pub returns : goal.returns
returns g c = λ rank ranks line below orders serve ends. nobody_starves line serve rank ranks below orders ends
