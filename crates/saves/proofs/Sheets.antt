-- The parameters of a router pass their check.
-- Assumes nothing.
use Rattle.std.proofs.Common.{Some, None}
use mathlib.Core.Path.{◌≡◌, sym, ap, ◌∙◌}
use mathlib.Core.Bool.{true}
use Rattle.params.specs.declared.Edition.{Edition}
use Rattle.params.specs.declared.Params.{Params}
use Rattle.params.specs.Editions.{edition_number, edition_of, coded}
use Rattle.params.specs.Check.{first_broken}
use Rattle.params.proofs.CheckLaws.{accepted_codes_lem, coded_back, edition_back}
use Rattle.records.specs.declared.Setup.{Setup}
use Rattle.records.specs.Records.{State}
use Rattle.validity.specs.Valid.{valid}
use Rattle.validity.proofs.ValidLaws.{valid_facts}
use Rattle.saves.specs.Promises.{Sheet}

pub sheet_passes : (st : State) (p : Params) → valid st ≡ true → Sheet st p → first_broken p ≡ None
sheet_passes st p v sheet =
    let a = accepted_codes_lem st.setup.edition st.codes (valid_facts st v).params.passes in
    let n : st.setup.edition ≡ edition_number p.edition = ap (λ (u : Setup). u.edition) sheet.setup in
    let k : Some a.edition ≡ Some p.edition = sym a.known ∙ ap edition_of n ∙ edition_back p.edition in
    let e : a.edition ≡ p.edition = cc in
    let q : coded a.edition st.codes ≡ p =
    ap (λ (x : Edition). coded x st.codes) e ∙ ap (coded p.edition) sheet.codes ∙ coded_back p in
    ap first_broken (sym q) ∙ a.passes
