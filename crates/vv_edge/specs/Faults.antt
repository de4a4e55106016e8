-- What it means that the system refuses a file.
use Rattle.std.specs.declared.io.ErrorKind.{ErrorKind}
use Rattle.std.specs.declared.io.ErrorKind.TheVariants.{NotFound, OutOfMemory}
use Rattle.vv_io.specs.declared.shelf.ShelfFault.{ShelfFault}
use Rattle.vv_io.specs.declared.shelf.ShelfFault.TheVariants.{Missing, Failed, NoMemory}

-- only a name that no file has is missing
abbrev pub shelf_fault : ErrorKind → ShelfFault
shelf_fault NotFound = Missing
shelf_fault OutOfMemory = NoMemory
shelf_fault kind = Failed
