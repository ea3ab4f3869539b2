-- Values of the definitions that the grammar shares with the code, worked out by hand from the layout.
use Rattle.std.specs.Prelude.{◌≡◌, ℕ, true, false, List, [], ◌∷◌, ◌++◌, map, replicate, Some, None, slice_set}
use Rattle.records.specs.Bands.{present}
use Rattle.records.specs.Directories.{layout_of, fixed}
use Rattle.records.specs.Headers.{band_fits, bands_fit}
use Rattle.records.specs.Layouts.{ancillaries, annotations, stride}
use Rattle.records.specs.declared.header.Content.TheVariants.{Mixed}
use Rattle.records.specs.declared.layout.Correction.{Correction}
use Rattle.records.specs.declared.layout.Correction.TheVariants.{Corrected, Uncorrected}
use Rattle.records.specs.declared.layout.Form.{Form}
use Rattle.records.specs.declared.layout.Form.TheVariants.{Interleaved, Sequential, Vidicon}
use Rattle.records.specs.declared.layout.Layout.{Layout}
use Rattle.machine.specs.Machines.{missing}

abbrev pub a_layout : Form → Correction → ℕ → Layout
a_layout f c m = record { form = f; mission = m; correction = c }

-- The first directory of an interleaved, corrected set of mission 1 on two reels.
abbrev pub a_directory : List ℕ
a_directory = replicate 6 0 ++ (76 ∷ 49 ∷ 77 ∷ 67 ∷ 80 ∷ [] ++ (replicate 7 0 ++ (49 ∷ 50 ∷ [] ++ (replicate 6 32 ++ (replicate 3 0 ++ (237 ∷ 255 ∷ 14 ∷ 12 ∷ [] ++ replicate 327 0))))))

abbrev pub Worked : Type 0
Worked =
    (map (λ m. stride (a_layout Interleaved Corrected m)) (1 ∷ 2 ∷ 3 ∷ []) ≡ 4 ∷ 4 ∷ 5 ∷ [])
    × (map annotations (Corrected ∷ Uncorrected ∷ []) ≡ 1 ∷ 2 ∷ [])
    × (map (λ f. ancillaries (a_layout f Uncorrected 3)) (Interleaved ∷ Sequential ∷ Vidicon ∷ []) ≡ 26 ∷ 26 ∷ 30 ∷ [])
    × (map (present 16) (0 ∷ 1 ∷ 2 ∷ 3 ∷ 4 ∷ []) ≡ true ∷ false ∷ false ∷ false ∷ false ∷ [])
    × (map (λ i. missing (Mixed 16) i 4) (0 ∷ 1 ∷ 2 ∷ 3 ∷ 4 ∷ []) ≡ false ∷ true ∷ true ∷ true ∷ false ∷ [])
    × (map (λ m. band_fits 56 (a_layout Sequential Corrected m) 7) (1 ∷ 2 ∷ 3 ∷ []) ≡ false ∷ false ∷ true ∷ [])
    × (map (λ m. bands_fit 1 (a_layout Interleaved Corrected m)) (1 ∷ 2 ∷ 3 ∷ []) ≡ false ∷ false ∷ true ∷ [])
    × (map (λ k. fixed a_directory (a_layout Interleaved Corrected 1) k) (1 ∷ 2 ∷ 3 ∷ []) ≡ false ∷ true ∷ false ∷ [])
    × (fixed (slice_set a_directory 25 0) (a_layout Interleaved Corrected 1) 2 ≡ false)
    × (layout_of a_directory ≡ Some (a_layout Interleaved Corrected 1))
    × (layout_of (slice_set (slice_set a_directory 8 82) 30 0) ≡ None)
