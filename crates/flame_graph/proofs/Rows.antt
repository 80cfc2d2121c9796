-- Worked rows: names, places and pictures. The pictures are those of `tools/model/flame_model.py`.
use Rattle.std.proofs.Common.{◌≡◌, ◌-◌, ◌^◌, ◌++◌, ◌∷◌, ℕ, List, [], refl}
use Rattle.std.specs.Fmt.{digits}
use Rattle.std.specs.Prelude.{codes}
use Rattle.map_names.specs.Naming.{no_names}
use Rattle.stack_rebuild.specs.Stacks.{PathRow}
use Rattle.std.specs.Char.{encode_utf8}
use Rattle.std.specs.Str.{chars, is_utf8}
use Rattle.flame_graph.specs.FlameText.{flame_text, shortened, xml_text}
use Rattle.flame_graph.specs.Picture.{thousandths_at}

-- ---- names

whole : shortened 4 (codes "main") ≡ codes "main"
unfolding is_utf8 chars encode_utf8
whole = refl

cut : shortened 3 (codes "main") ≡ codes "m.."
unfolding is_utf8 chars encode_utf8
cut = refl

cut_before_escapes : shortened 4 (codes "a&&&&") ≡ codes "a&amp;.."
unfolding is_utf8 chars encode_utf8
cut_before_escapes = refl

tags : xml_text (codes "a<b>&\"c\"") ≡ codes "a&lt;b&gt;&amp;&quot;c&quot;"
unfolding is_utf8 chars encode_utf8
tags = refl

brackets : xml_text (codes "a[0]]>") ≡ codes "a[0]]&gt;"
unfolding is_utf8 chars encode_utf8
brackets = refl

-- what stands for a byte that isn't printable: U+FFFD in UTF-8
abbrev replaced : List ℕ
replaced = 239 ∷ 191 ∷ 189 ∷ []

controls : xml_text (1 ∷ 9 ∷ 127 ∷ []) ≡ replaced ++ replaced ++ replaced
unfolding is_utf8 chars encode_utf8
controls = refl

-- an e with an accent, which has two bytes; the first of them by itself; and U+FFFF
accent : xml_text (195 ∷ 169 ∷ []) ≡ 195 ∷ 169 ∷ []
unfolding is_utf8 chars encode_utf8
accent = refl

half : xml_text (195 ∷ 40 ∷ []) ≡ replaced ++ 40 ∷ []
unfolding is_utf8 chars encode_utf8
half = refl

outside : xml_text (239 ∷ 191 ∷ 191 ∷ []) ≡ replaced
unfolding is_utf8 chars encode_utf8
outside = refl

-- a letter of each of one, two, three and four bytes is one character
cut_wide : shortened 3 (97 ∷ 195 ∷ 169 ∷ 226 ∷ 130 ∷ 172 ∷ 240 ∷ 159 ∷ 152 ∷ 128 ∷ []) ≡ 97 ∷ codes ".."
unfolding is_utf8 chars encode_utf8
cut_wide = refl

whole_wide : shortened 4 (97 ∷ 195 ∷ 169 ∷ 226 ∷ 130 ∷ 172 ∷ 240 ∷ 159 ∷ 152 ∷ 128 ∷ []) ≡ 97 ∷ 195 ∷ 169 ∷ 226 ∷ 130 ∷ 172 ∷ 240 ∷ 159 ∷ 152 ∷ 128 ∷ []
unfolding is_utf8 chars encode_utf8
whole_wide = refl

-- ---- places

within : thousandths_at 35 25 ≡ 842857
within = refl

to_the_end : thousandths_at 35 35 ≡ 1180000
to_the_end = refl

of_nothing : thousandths_at 0 0 ≡ 0
of_nothing = refl

half_of_most : thousandths_at (2 ^ 128 - 1) (2 ^ 127) ≡ 590000
half_of_most = refl

all_of_most : thousandths_at (2 ^ 128 - 1) (2 ^ 128 - 1) ≡ 1180000
all_of_most = refl

-- ---- pictures

abbrev row : List ℕ → (count sum own : ℕ) → PathRow
row path count sum own = record { path = path; count = count; sum = sum; own = own }

-- no row
empty : flame_text 0 no_names []
    ≡ codes "<svg xmlns=\"http://www.w3.org/2000/svg\" width=\"1200\" height=\"80\" viewBox=\"0 0 1200 80\" font-family=\"monospace\" font-size=\"12\">\n"
    ++ codes "<rect width=\"1200\" height=\"80\" fill=\"#f8f4e4\"/>\n"
    ++ codes "<text x=\"600\" y=\"28\" font-size=\"17\" text-anchor=\"middle\">Flame graph: 0 cycles</text>\n"
    ++ codes "<text x=\"10\" y=\"68\">Frames narrower than 0.1 pixels, which are left out: 0</text>\n"
    ++ codes "</svg>\n"
unfolding digits is_utf8 chars encode_utf8
empty = refl

-- the outermost caller has no row
recursion : flame_text 0 no_names (row (1 ∷ 1 ∷ []) 1 35 25 ∷ row (1 ∷ 1 ∷ 1 ∷ []) 1 10 10 ∷ [])
    ≡ codes "<svg xmlns=\"http://www.w3.org/2000/svg\" width=\"1200\" height=\"128\" viewBox=\"0 0 1200 128\" font-family=\"monospace\" font-size=\"12\">\n"
    ++ codes "<rect width=\"1200\" height=\"128\" fill=\"#f8f4e4\"/>\n"
    ++ codes "<text x=\"600\" y=\"28\" font-size=\"17\" text-anchor=\"middle\">Flame graph: 35 cycles</text>\n"
    ++ codes "<g><title>#1: count 0, sum 0, self 0</title><rect x=\"10.000\" y=\"80\" width=\"1180.000\" height=\"15\" rx=\"2\" fill=\"rgb(236,189,37)\"/><text x=\"13.000\" "
    ++ codes "y=\"92\">#1</text></g>\n"
    ++ codes "<g><title>#1: count 1, sum 35, self 25</title><rect x=\"10.000\" y=\"64\" width=\"1180.000\" height=\"15\" rx=\"2\" fill=\"rgb(236,189,37)\"/><text x=\"13.000\" "
    ++ codes "y=\"76\">#1</text></g>\n"
    ++ codes "<g><title>#1: count 1, sum 10, self 10</title><rect x=\"852.857\" y=\"48\" width=\"337.143\" height=\"15\" rx=\"2\" fill=\"rgb(236,189,37)\"/><text x=\"855.857\" "
    ++ codes "y=\"60\">#1</text></g>\n"
    ++ codes "<text x=\"10\" y=\"116\">Frames narrower than 0.1 pixels, which are left out: 0</text>\n"
    ++ codes "</svg>\n"
unfolding digits is_utf8 chars encode_utf8
recursion = refl

-- no time, and so no width
no_time : flame_text 0 no_names (row (1 ∷ []) 1 0 0 ∷ row (1 ∷ 2 ∷ []) 1 0 0 ∷ [])
    ≡ codes "<svg xmlns=\"http://www.w3.org/2000/svg\" width=\"1200\" height=\"112\" viewBox=\"0 0 1200 112\" font-family=\"monospace\" font-size=\"12\">\n"
    ++ codes "<rect width=\"1200\" height=\"112\" fill=\"#f8f4e4\"/>\n"
    ++ codes "<text x=\"600\" y=\"28\" font-size=\"17\" text-anchor=\"middle\">Flame graph: 0 cycles</text>\n"
    ++ codes "<text x=\"10\" y=\"100\">Frames narrower than 0.1 pixels, which are left out: 2</text>\n"
    ++ codes "</svg>\n"
unfolding digits is_utf8 chars encode_utf8
no_time = refl

-- a counter with a frequency, and a frame that is too narrow
seconds : flame_text 3 no_names (row (1 ∷ []) 1 200000 199999 ∷ row (1 ∷ 2 ∷ []) 1 1 1 ∷ [])
    ≡ codes "<svg xmlns=\"http://www.w3.org/2000/svg\" width=\"1200\" height=\"112\" viewBox=\"0 0 1200 112\" font-family=\"monospace\" font-size=\"12\">\n"
    ++ codes "<rect width=\"1200\" height=\"112\" fill=\"#f8f4e4\"/>\n"
    ++ codes "<text x=\"600\" y=\"28\" font-size=\"17\" text-anchor=\"middle\">Flame graph: 66666.666666 seconds</text>\n"
    ++ codes "<g><title>#1: count 1, sum 200000, self 199999</title><rect x=\"10.000\" y=\"64\" width=\"1180.000\" height=\"15\" rx=\"2\" fill=\"rgb(236,189,37)\"/><text "
    ++ codes "x=\"13.000\" y=\"76\">#1</text></g>\n"
    ++ codes "<text x=\"10\" y=\"100\">Frames narrower than 0.1 pixels, which are left out: 1</text>\n"
    ++ codes "</svg>\n"
unfolding digits is_utf8 chars encode_utf8
seconds = refl

-- as much time as can be counted
most : flame_text 0 no_names (row (1 ∷ []) 1 340282366920938463463374607431768211455 (2 ^ 127) ∷ row (1 ∷ 2 ∷ []) 1 (2 ^ 127 - 1) (2 ^ 127 - 1) ∷ [])
    ≡ codes "<svg xmlns=\"http://www.w3.org/2000/svg\" width=\"1200\" height=\"112\" viewBox=\"0 0 1200 112\" font-family=\"monospace\" font-size=\"12\">\n"
    ++ codes "<rect width=\"1200\" height=\"112\" fill=\"#f8f4e4\"/>\n"
    ++ codes "<text x=\"600\" y=\"28\" font-size=\"17\" text-anchor=\"middle\">Flame graph: 340282366920938463463374607431768211455 cycles</text>\n"
    ++ codes "<g><title>#1: count 1, sum 340282366920938463463374607431768211455, self 170141183460469231731687303715884105728</title><rect x=\"10.000\" y=\"64\" "
    ++ codes "width=\"1180.000\" height=\"15\" rx=\"2\" fill=\"rgb(236,189,37)\"/><text x=\"13.000\" y=\"76\">#1</text></g>\n"
    ++ codes "<g><title>#2: count 1, sum 170141183460469231731687303715884105727, self 170141183460469231731687303715884105727</title><rect x=\"600.000\" y=\"48\" "
    ++ codes "width=\"590.000\" height=\"15\" rx=\"2\" fill=\"rgb(217,158,19)\"/><text x=\"603.000\" y=\"60\">#2</text></g>\n"
    ++ codes "<text x=\"10\" y=\"100\">Frames narrower than 0.1 pixels, which are left out: 0</text>\n"
    ++ codes "</svg>\n"
unfolding digits is_utf8 chars encode_utf8
most = refl
