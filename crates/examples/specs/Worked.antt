-- All worked examples that run the calls: 01's bench list, and those of the later orders.
use Rattle.examples.specs.Table.{Examples}
use Rattle.examples.specs.Slack.{Slack}
use Rattle.examples.specs.Better.{Better}

pub record Worked : Type 0 where
  pub bench : Examples
  pub slack : Slack
  pub better : Better
