-- The direction of a peer over lists with orders 6 and 7: a new call says none.
use Rattle.std.specs.Prelude.{ℕ, Bool, false, List, [], ◌∷◌, eqb}
use Rattle.call_lists.specs.Lists.{heard}
use Rattle.gossip.specs.Calls.{Any, old, new}
use Rattle.gossip_lists.specs.Lists.{Start, Did, answered_all}

abbrev pub heard_any : Any → Bool → ℕ → Bool → Bool
heard_any (old c) done peer was = heard c done peer was
heard_any (new c) done peer was = was

unfoldable pub outbound_all : Start → List Did → ℕ → Bool
outbound_all start [] peer = false
outbound_all start (c ∷ before) peer =
    heard_any c.call (eqb (answered_all start c before) 0) peer (outbound_all start before peer)
