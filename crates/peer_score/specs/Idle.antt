-- Topic records that nothing has happened to, as most are: few peers are members of a mesh or break a rule.
use Rattle.std.specs.Prelude.{Bool, not, ◌&&◌, eqb}
use Rattle.records.specs.declared.TopicRecord.{TopicRecord}

-- no counter, and no member's: its share of a score is nothing, and a decay leaves it as it is
unfoldable pub is_idle : TopicRecord → Bool
is_idle r = eqb r.p2 0 && (eqb r.p3 0 && (eqb r.p4 0 && (eqb r.p3b 0 && not (eqb r.member 1))))
