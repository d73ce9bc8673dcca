-- The report of a request that has no solution: this project's own.
use Rattle.std.specs.Prelude.{ℕ, ◌-◌, List, [], ◌∷◌, ◌++◌, codes, flat_map, map, slice_get}
use Rattle.std.specs.Option.{option_map_or}
use Rattle.conda_base.specs.Signs.{newline}
use Rattle.conda_spec.specs.Parts.{Parts}
use Rattle.conda_spec.specs.Text.{spec_text}
use Rattle.conda_record.specs.declared.pkg_record.PkgRecord.{PkgRecord}
use Rattle.conda_record.specs.declared.pool.NamePool.{NamePool}
use Rattle.conda_refute.specs.LogText.{log_text}
use Rattle.conda_refute.specs.declared.log.Log.{Log}
use Rattle.conda_encode.specs.Clauses.{Reason, reasons}
use Rattle.conda_encode.specs.Variables.{records}
use Rattle.conda_encode.specs.declared.asked.Asked.{Asked}
use Rattle.conda_encode.specs.declared.encoded.Why.{Why}
use Rattle.conda_explain.specs.Shown.{shown}
use Rattle.conda_explain.specs.Renumbered.{shown_log}

-- ---- a reason, where the places and variables are those of these items and records

abbrev pub item_text : List Asked → ℕ → List ℕ
item_text items place = option_map_or (λ item. spec_text item.spec) (slice_get items place) []

abbrev pub entry_text : List Parts → ℕ → List ℕ
entry_text entries place = option_map_or spec_text (slice_get entries place) []

-- `DIST needs SPEC`
abbrev pub needs_text : ℕ → PkgRecord → List ℕ
needs_text entry pkg = pkg.dist ++ (codes " needs " ++ entry_text pkg.depends entry)

-- `DIST constrains SPEC`
abbrev pub constrains_text : ℕ → PkgRecord → List ℕ
constrains_text entry pkg = pkg.dist ++ (codes " constrains " ++ entry_text pkg.constrains entry)

-- what the text says of the record with this variable
abbrev pub of_record : (PkgRecord → List ℕ) → List PkgRecord → ℕ → List ℕ
of_record text recs variable = option_map_or text (slice_get recs (variable - 1)) []

abbrev pub why_text : List PkgRecord → List Asked → Why → List ℕ
why_text recs items (Why.Asked place) = codes "asked " ++ item_text items place
why_text recs items (Why.Needs rec entry) = of_record (needs_text entry) recs rec
why_text recs items (Why.Constrains rec entry) = of_record (constrains_text entry) recs rec
why_text recs items (Why.One name) = codes "one " ++ name
why_text recs items (Why.Pinned place) = codes "pinned " ++ item_text items place

abbrev pub why_line : List PkgRecord → List Asked → Why → List ℕ
why_line recs items why = why_text recs items why ++ newline ∷ []

-- ---- the whole

-- `unsatisfiable:`, a line for each reason, `refutation:`, and the log over these clauses
abbrev pub report_of : List NamePool → List Asked → List Reason → Log → List ℕ
report_of pools items all log =
    codes "unsatisfiable:\n" ++ (flat_map (why_line (records pools) items) (map (λ r. r.0) (shown all log))
    ++ (codes "refutation:\n" ++ log_text (shown_log all log)))

-- the report of a request and a log
abbrev pub report_text : List NamePool → List Asked → Log → List ℕ
report_text pools items log = report_of pools items (reasons pools items) log
