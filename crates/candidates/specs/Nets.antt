-- The code's nets as those of the model: the same atoms, neighbours and bonds.
use Rattle.model.specs.Net.{Net}
use Rattle.atoms.specs.declared.nets.Net as code
use Rattle.atoms.specs.declared.nets.View.{View}

-- a net
abbrev pub graph : code.Net → Net
graph net = record { n = net.n; adj = net.adj; touch = net.touch }

-- a net as it is lent
abbrev pub lent_graph : View → Net
lent_graph net = record { n = net.n; adj = net.adj.now; touch = net.touch.now }
