-- The text of a place, and the line of a refusal.
use Rattle.std.specs.Prelude.{ℕ, List, [], ◌∷◌, ◌++◌, codes}
use Rattle.std.specs.Fmt.{decimal}
use Rattle.pme_base.specs.declared.place.Place.{Place}
use Rattle.pme_base.specs.declared.place.PlaceKind.{PlaceKind}
use Rattle.pme_base.specs.declared.place.PlaceKind.TheVariants.{File, Loose, Footer, ColumnMetaData, DataPage, DictionaryPage, DataPageHeader, DictionaryPageHeader, ColumnIndex, OffsetIndex}
use Rattle.pme_base.specs.declared.refusal.Refusal.{Refusal}
use Rattle.refusal_lines.specs.declared.cause_table.LineForm.{LineForm}
use Rattle.refusal_lines.specs.declared.cause_table.LineForm.TheVariants as form
use Rattle.refusal_lines.specs.CauseRows.{status_number, cause_name, line_form}
use Rattle.refusal_lines.specs.DetailText.{detail_text, spaced, spaced_pair}

-- the row group and the column of a place, each after a space
abbrev pub column_text : Place → List ℕ
column_text place = spaced_pair (decimal place.row_group) (decimal place.column)

-- the row group, the column and the page of a place, each after a space
abbrev pub page_text : Place → List ℕ
page_text place = column_text place ++ spaced (decimal place.page)

-- the word for a kind of place
abbrev pub kind_word : PlaceKind → List ℕ
kind_word File = codes "file"
kind_word Loose = codes "module"
kind_word Footer = codes "footer"
kind_word ColumnMetaData = codes "metadata"
kind_word DataPage = codes "page"
kind_word DictionaryPage = codes "dictionary"
kind_word DataPageHeader = codes "header"
kind_word DictionaryPageHeader = codes "dictionary-header"
kind_word ColumnIndex = codes "column-index"
kind_word OffsetIndex = codes "offset-index"

-- the ordinals that a place of this kind has
abbrev pub ordinals_text : PlaceKind → Place → List ℕ
ordinals_text File place = []
ordinals_text Loose place = []
ordinals_text Footer place = []
ordinals_text ColumnMetaData place = column_text place
ordinals_text DataPage place = page_text place
ordinals_text DictionaryPage place = column_text place
ordinals_text DataPageHeader place = page_text place
ordinals_text DictionaryPageHeader place = column_text place
ordinals_text ColumnIndex place = column_text place
ordinals_text OffsetIndex place = column_text place

-- the text of a place
abbrev pub place_text : Place → List ℕ
place_text place = kind_word place.kind ++ ordinals_text place.kind place

-- the text of a line after the cause, by its form
abbrev pub form_text : LineForm → Refusal → List ℕ → List ℕ
form_text form.Place refusal subject =
    codes " in " ++ subject ++ codes " " ++ place_text refusal.place ++ codes " at " ++ decimal refusal.at ++ detail_text refusal.detail
form_text form.File refusal subject = codes " in " ++ subject ++ detail_text refusal.detail
form_text form.Bare refusal subject = []

-- the whole line, with its line feed; `subject` is the name of the file that the refusal is about
abbrev pub refusal_line : Refusal → List ℕ → List ℕ
refusal_line refusal subject =
    codes "refused " ++ decimal (status_number refusal.cause) ++ codes " " ++ cause_name refusal.cause
    ++ form_text (line_form refusal.cause) refusal subject ++ 10 ∷ []
