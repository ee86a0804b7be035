-- The promises of save and load.
-- Assumes nothing.
use Rattle.saves.specs.Promises.{EverySaveLoads, SavesRemember, SavesBack, LoadsRouter}
use Rattle.saves.proofs.SaveLoads.{loads}
use Rattle.saves.proofs.LoadSaves.{saves_back}
use Rattle.saves.proofs.LoadedRouter.{loaded_router}
use Rattle.saves.proofs.Remembering.{saves_remember}
use Rattle.saves.proofs.Sheets.{sheet_passes}

pub every_save_loads : EverySaveLoads
every_save_loads st p time clock v sheet late early =
    loads st v p sheet.size (sheet_passes st p v sheet) sheet.codes time late clock early

pub remember : SavesRemember
remember = saves_remember

pub same_bytes_lem : SavesBack
same_bytes_lem = saves_back

pub router : LoadsRouter
router = loaded_router
