pub mod AllTasks
mod Reported
mod OnePixel
mod TextExamples
mod LineJobExamples
mod GridExamples
mod NumberJobExamples
mod FaultLineExamples
mod ReportExamples
