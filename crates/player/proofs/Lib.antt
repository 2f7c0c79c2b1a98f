mod Worked
mod Coheres
mod Filling
mod Loading
mod PrintedLines
mod Tying
