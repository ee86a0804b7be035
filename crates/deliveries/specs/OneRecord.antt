-- 01: "A delivery alters the counters of one record and no other record."
use Rattle.std.specs.Prelude.{Some}
use Rattle.std.specs.Prelude.{ℕ, ◌≡◌, ◌≢◌, List, length}
use Rattle.records.specs.Records.{State, place, topic_in}
use Rattle.layout.specs.View.{state_of}
use Rattle.lookup.specs.Find.{find_connected}
use Rattle.score.specs.Counters.{with_counters}
use Rattle.rules.specs.declared.Answer.{Answer}
use Rattle.rules.specs.Calls.{deliver}
use Rattle.rules.specs.Step.{step}
use Rattle.rules.specs.Promise.{Follows}

-- u is st but for the clock, and for counters of one record: that of topic t of the connected peer with this id
pub record OneRecord (st u : State) (id t : ℕ) : Type 0 where
  pub joined : u.joined ≡ st.joined
  pub codes : u.codes ≡ st.codes
  pub setup : u.setup ≡ st.setup
  pub peers : u.peers ≡ st.peers
  pub size : length u.topics ≡ length st.topics
  -- "no other record": the topic record at any other place is as it was
  pub others : (k : ℕ) → ((s : ℕ) → find_connected st id ≡ Some s → k ≢ place s t) → topic_in u k ≡ topic_in st k
  -- "the counters": of every record all stands but P2, P3 and P4
  pub rest :
      (k : ℕ) →
      topic_in u k
      ≡ with_counters (topic_in st k) (topic_in u k).p2 (topic_in u k).p3 (topic_in u k).p4 (topic_in st k).p3b (topic_in st k).mesh

-- of the rules: every state, every argument and every size of the lent list, refused and ignored deliveries too
abbrev pub AltersOne : Type 0
AltersOne = (st : State) (time id t kind room : ℕ) → OneRecord st (step st (deliver time id t kind) room).state id t

-- of the code: what `deliver` promises of the table
abbrev pub AltersOneIn : Type 0
AltersOneIn =
    (time id t kind : ℕ) (r : Answer) (table table' list list' : List ℕ) →
    Follows (deliver time id t kind) r table table' list list' →
    OneRecord (state_of table) (state_of table') id t
