-- What stands below the files of a folder.
use Rattle.std.specs.Prelude.{Option}
use Rattle.file_disk.specs.declared.folder_files.FolderFiles.{FolderFiles}
use Rattle.file_disk.specs.declared.raw.RawFolder.{Ghosts}
use Rattle.file_disk.specs.declared.trouble.Trouble.{Trouble}

abbrev pub folder_of : {F File : Type 0} {members : Ghosts F File} → FolderFiles F File members → F
folder_of files = files.files.folder

abbrev pub trouble_of : {F File : Type 0} {members : Ghosts F File} → FolderFiles F File members → Option Trouble
trouble_of files = files.trouble
