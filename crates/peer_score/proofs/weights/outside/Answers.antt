-- `peer_score::weights::outside`: three products within their bounds.
use native.Mathlib.Omega.{arith}
use Rattle.peer_score.proofs.weights.outside.Goals as goal

pub returns : goal.returns
returns c = (
  cc,
  record {
    gain = omega (arith, c.product-gain.ensures.1);
    loss = omega (arith, c.product.ensures.1, c.product-2.ensures.1);
  },
)
