-- The worked examples: the definitions compute.
-- Assumes nothing.
use Rattle.std.proofs.Common.{Some, None}
use Rattle.index.proofs.Kit.{◌≡◌, refl}
use Rattle.index.specs.Index.{first}
use lib.IntN.{pos}
use lib.Ieee.{nan_bits, of_bits, to_bits, div, of_int}
use Rattle.supplier_entry.specs.Factor.{thousand, factor_of, factor_bits, is_factor, thousandths_of}
use Rattle.supplier_entry.specs.Entries.{twos, twos_of, entry_of, whole_of, units_of, convert_of, import_of, content_of}
use Rattle.supplier_entry.specs.Examples.{decay, to_zero, Examples}

-- each search over the 999 or 1001 factors by itself
decay_970 : decay 0 0x3fef_0a3d_70a3_d70a ≡ Some (pos 970)
unfolding nan_bits of_bits to_bits div of_int first thousand factor_of factor_bits is_factor thousandths_of twos twos_of entry_of whole_of units_of
    convert_of import_of content_of
decay_970 = refl

ulp_above : decay 0 0x3fef_0a3d_70a3_d70b ≡ None
unfolding nan_bits of_bits to_bits div of_int first thousand factor_of factor_bits is_factor thousandths_of twos twos_of entry_of whole_of units_of
    convert_of import_of content_of
ulp_above = refl

ulp_below : decay 0 0x3fef_0a3d_70a3_d709 ≡ None
unfolding nan_bits of_bits to_bits div of_int first thousand factor_of factor_bits is_factor thousandths_of twos twos_of entry_of whole_of units_of
    convert_of import_of content_of
ulp_below = refl

divided : decay 0 0x3f82_6e97_8d4f_df3b ≡ Some (pos 9)
unfolding nan_bits of_bits to_bits div of_int first thousand factor_of factor_bits is_factor thousandths_of twos twos_of entry_of whole_of units_of
    convert_of import_of content_of
divided = refl

multiplied : decay 0 0x3f82_6e97_8d4f_df3c ≡ None
unfolding nan_bits of_bits to_bits div of_int first thousand factor_of factor_bits is_factor thousandths_of twos twos_of entry_of whole_of units_of
    convert_of import_of content_of
multiplied = refl

one : to_zero 0 0x3ff0_0000_0000_0000 ≡ Some (pos 1000)
unfolding nan_bits of_bits to_bits div of_int first thousand factor_of factor_bits is_factor thousandths_of twos twos_of entry_of whole_of units_of
    convert_of import_of content_of
one = refl

one_decay : decay 0 0x3ff0_0000_0000_0000 ≡ None
unfolding nan_bits of_bits to_bits div of_int first thousand factor_of factor_bits is_factor thousandths_of twos twos_of entry_of whole_of units_of
    convert_of import_of content_of
one_decay = refl

plus_zero : to_zero 0 0 ≡ Some (pos 0)
unfolding nan_bits of_bits to_bits div of_int first thousand factor_of factor_bits is_factor thousandths_of twos twos_of entry_of whole_of units_of
    convert_of import_of content_of
plus_zero = refl

minus_zero : to_zero 0 0x8000_0000_0000_0000 ≡ None
unfolding nan_bits of_bits to_bits div of_int first thousand factor_of factor_bits is_factor thousandths_of twos twos_of entry_of whole_of units_of
    convert_of import_of content_of
minus_zero = refl

infinity : to_zero 0 0x7ff0_0000_0000_0000 ≡ None
unfolding nan_bits of_bits to_bits div of_int first thousand factor_of factor_bits is_factor thousandths_of twos twos_of entry_of whole_of units_of
    convert_of import_of content_of
infinity = refl

pub examples : Examples
unfolding nan_bits of_bits to_bits div of_int first thousand factor_of factor_bits is_factor thousandths_of twos twos_of entry_of whole_of units_of
    convert_of import_of content_of
examples =
    record {
      decay_970 = decay_970;
      ulp_above = ulp_above;
      ulp_below = ulp_below;
      divided = divided;
      multiplied = multiplied;
      one = one;
      one_decay = one_decay;
      plus_zero = plus_zero;
      minus_zero = minus_zero;
      infinity = infinity;
      no_number = refl;
      minute = refl;
      nanosecond_more = refl;
      no_second = refl;
      millisecond = refl;
      half_millisecond = refl;
      minus_one = refl;
      minus_101 = refl;
      plus_one = refl;
      span_as_whole = refl;
      factor_as_span = refl;
      fourth_kind = refl;
      tenth = refl;
      wrote_minute = refl;
      wrote_minus_one = refl;
    }
