use Rattle.std.proofs.Common.{◌≡◌, take}
use Rattle.domains.specs.Stands.{Past}
use Rattle.network.specs.History.{History}
use Rattle.network.specs.Model.{moment_of}
use Rattle.network.specs.Performs.{buffers, lengths_of}
use Rattle.network.specs.Requests.{calls_of}
use Rattle.network.specs.Served.{Stands}
use Rattle.network.proofs.network.Network.perform.Given as goal

-- the calls so far and their answers are a history from where the network stood rightly, and both buffers are as long as they were
abbrev pub invariant-loop-i : goal.invariant-loop-i
invariant-loop-i g l = record {
  catalog : l.self.catalog ≡ l.initial.self.catalog;
  stands : Stands g.C.Catalog.meaning l.initial.self → Stands g.C.Catalog.meaning l.self;
  history :
      Stands g.C.Catalog.meaning l.initial.self
      → History (g.C.Catalog.meaning l.initial.self.catalog) (moment_of l.initial.self.state) (buffers l.initial.waiting l.initial.returning) (calls_of (lengths_of l.initial.waiting l.initial.returning) (take l.i l.call-items)) (take l.i l.answers) (moment_of l.self.state) (buffers l.waiting l.returning);
  answers : Past l.i l.initial.answers l.answers;
  past : Past 128 l.initial.waiting l.waiting;
  past_returning : Past 2048 l.initial.returning l.returning;
}
